-- XmlElements (OPC 10000-6, 5.2.2.8): <a/> is 04 00 00 00 3C 61 2F 3E.
use Rattle.std.specs.Prelude.{ℕ, List, Option}
use Rattle.ua_wire.specs.Format.{Flat}
use Rattle.ua_wire.specs.Join.{made}
use Rattle.ua_wire.specs.Counted.{counted}
use Rattle.ua_builtin.specs.declared.xml_element.XmlElement.{XmlElement}

-- the XmlElement of these bytes, or the null one
abbrev pub of_octets : Option (List ℕ) → XmlElement
of_octets b = record { octets = b }

-- an Int32 count and that many bytes, which are not inspected; a negative count is null
unfoldable pub xml_element : Flat XmlElement
xml_element = made of_octets (λ x. x.octets) counted
