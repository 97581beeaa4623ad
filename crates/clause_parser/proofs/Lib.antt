pub mod ClauseForms
pub mod BlockForms
pub mod GroupForms
pub mod WayLaws
pub mod Begins
