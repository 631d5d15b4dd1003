pub mod Found
pub mod Grammar
pub mod Kinds
pub mod Laws
pub mod Refusal
pub mod Printed
pub mod PrintLaws
