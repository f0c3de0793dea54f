pub mod Numbers
pub mod Exported
pub mod AddExported
pub mod MendExported
pub mod CheckExported
