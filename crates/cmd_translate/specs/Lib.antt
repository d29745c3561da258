pub mod TranslateWork
pub mod Translates
