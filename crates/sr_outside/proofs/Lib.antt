mod Appended
mod Listed
mod Places
