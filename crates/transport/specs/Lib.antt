pub mod Parcels
pub mod Refusals
pub mod Mailboxes
pub mod Timed
pub mod Shipped
pub mod TransportLaws
pub mod Timings
pub mod Boxes
