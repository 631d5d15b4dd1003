pub mod Lines
pub mod Name
pub mod Numbers
pub mod Text
