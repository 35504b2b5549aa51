-- A step of the station is followed by a rule of the counters.
pub mod Changes
pub mod Fire
pub mod Steps
