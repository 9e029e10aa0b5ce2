mod ServerMessages
mod Holding
pub mod ServerReadsOnce
pub mod Replies
pub mod ClientReadsOnce
pub mod ReadOn
pub mod Written
pub mod ServerReadsMessages
mod ClientTakes
pub mod ClientReadsMessages
pub mod Following
mod ClientSending
pub mod InStep
mod PairedCalls
pub mod AgreedFirst
pub mod Opened
mod Conversing
mod ServerConversing
mod ClientConversing
mod MergedChunks
mod MergedFrames
mod CutChunks
mod ServerMerges
mod ServerRuns
mod ClientMerges
mod ClientRuns
pub mod Groups
mod Connected
mod ExampleMerges
mod AskedBefore
pub mod Lists
pub mod Further
pub mod Sized
