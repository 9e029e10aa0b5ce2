-- The definitions, in the order in which they are best read: the content of one frame, and what the
-- frames so far have brought.
pub mod Content
pub mod Received
-- Why either end rejects a frame, and where bytes stop at what is rejected.
pub mod Refusals
pub mod Stops
-- In which parts either end returns a message.
pub mod MessageParts
-- The state of either end after bytes, by its rules.
pub mod Ends
-- A server: what it agrees to, what frames tell it, which it rejects, and which come next; what it
-- sends; its state, and its responses.
pub mod Agreement
pub mod ServerTold
pub mod ServerEvents
pub mod ServerRefusals
pub mod ServerRules
pub mod ServerSends
pub mod ServerPlaces
pub mod ServerStands
pub mod ServerAnswers
-- a client: its operations; its tokens, its table of reasons and its rules; its state, what it
-- sends and its outcomes
pub mod Asks
pub mod ClientTokens
pub mod ClientTold
pub mod ClientEvents
pub mod ClientTable
pub mod ClientSends
pub mod ClientAsks
pub mod Client
pub mod ClientAnswers
-- The transport under a connection, and timestamps.
pub mod Line
pub mod MemoryLine
pub mod Moments
-- What the parts of both ends make of operations, frames and fragments: definitions that no public
-- contract cites.
pub mod inside
