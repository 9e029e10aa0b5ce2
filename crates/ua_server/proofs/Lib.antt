mod EndpointFits
mod Answered
mod Identities
mod Statuses
mod Replies
mod GivenUp
mod ReadBody
mod GoodHeader
pub mod SoundServices
mod Steps
mod Passing
mod Bounds
mod Events
mod Standing
mod Stores
mod Exchanges
pub mod LeftOver
mod Acting
mod Lasting
mod Advancing
mod Turning
mod Handling
mod Nows
pub mod NowStanding
mod Histories
mod EndpointStays
mod Sharings
mod Tokens
mod Stepped
mod Replying
mod Thinned
mod Clean
mod SentAs
mod Undisturbed
pub mod Happened
pub mod RequestsInParts
pub mod SaidInParts
