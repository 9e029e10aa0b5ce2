pub mod PlainFits
mod Ahead
mod CodesSkipped
mod ValueAlone
mod Thinned
pub mod AttributeLawful
pub mod AttributeSound
pub mod DiscoverySound
pub mod SessionLawful
pub mod SessionSound
