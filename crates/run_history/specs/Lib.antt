pub mod Histories
pub mod Tickets
pub mod OpenTickets
