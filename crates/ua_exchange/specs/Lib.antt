-- The definitions, in the order in which they are best read: what the two ends are; what a client
-- sends for its operations, and what that tells the server; which operations are accepted; their
-- outcomes; and what both send. Last what a client decodes that makes its operations in groups, and
-- what is inside.
pub mod Programs
pub mod Turns
pub mod Accepted
pub mod Replies
pub mod Exchanged
pub mod inside
