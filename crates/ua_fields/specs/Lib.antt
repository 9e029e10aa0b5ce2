-- The fields of messages: trees and their lines, the texts of values, the fields of each structure
-- and message, and the lines of a body.
pub mod Styles
pub mod Tree
pub mod Paths
pub mod Leaves
pub mod Header
pub mod DataValue
pub mod Attribute
pub mod Discovery
pub mod Session
pub mod SecureChannel
pub mod SecurityToken
pub mod Messages
pub mod Bodies
