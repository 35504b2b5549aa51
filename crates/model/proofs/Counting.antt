-- How the counts of a station change with its processes.
pub mod Station
pub mod Mailboxes
pub mod Deliveries
pub mod Receives
