pub mod TranslateFinish
pub mod TranslateWorking
