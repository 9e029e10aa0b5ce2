-- Definitions that only contracts within this crate cite: what a client that does all its
-- operations at one time did over a transport to a server.
pub mod Talking
