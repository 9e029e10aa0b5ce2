pub mod FirstReasons
pub mod FlagBits
pub mod Leasts
pub mod PlainLawful
pub mod NodeIdLawful
pub mod LocalizedTextLawful
pub mod ExpandedNodeIdLawful
pub mod ExtensionObjectLawful
pub mod Texts
mod NullObject
