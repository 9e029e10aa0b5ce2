-- What the words of the command line request.
use Rattle.std.specs.Prelude.{◌≡◌, ◌≤◌, ℕ, ⊤, Bool, true, List, IfSome}
use Rattle.std.specs.Str.Parse.{IsNumeral, digits_value}
use Rattle.ua_words.specs.declared.arguments.Task.{Task}
use Rattle.ua_words.specs.declared.arguments.Task.TheVariants.{Dissect, Judge, Serve, Endpoints, Read, Write, Ask, Loop, Version}

-- decimal digits, without a sign, write a number that is at least 1
pub record WritesNumber (digits : List ℕ) (number : ℕ) : Type 0 where
  pub numeral : IsNumeral 10 digits
  pub value : digits_value 10 digits ≡ number
  pub some : 1 ≤ number

-- the number of an attribute (OPC 10000-6, A.1)
abbrev pub IsAttributeNumber : ℕ → Type 0
IsAttributeNumber number = (1 ≤ number) × (number ≤ 27)

-- a number of connections that are served at a time
abbrev pub IsPlaces : ℕ → Type 0
IsPlaces number = (1 ≤ number) × (number ≤ 1024)

-- a server that is to last has a limit of responses, of which 0 is none
abbrev pub IsLimited : Bool → ℕ → Type 0
IsLimited lasts most = lasts ≡ true → 1 ≤ most

-- each number among them is at least 1, and at most 1024 connections are served at a time
abbrev pub CountsFromOne : Task → Type 0
CountsFromOne (Dissect asked) = ⊤
CountsFromOne (Judge asked) = ⊤
CountsFromOne (Serve asked) = (1 ≤ asked.port) × (1 ≤ asked.connections) × IfSome asked.at_once IsPlaces
CountsFromOne (Endpoints asked) = 1 ≤ asked.server.port
CountsFromOne (Read asked) = (1 ≤ asked.server.port) × IsAttributeNumber asked.attribute
CountsFromOne (Write asked) = 1 ≤ asked.server.port
CountsFromOne (Ask asked) = 1 ≤ asked.server.port
CountsFromOne (Loop asked) = 1 ≤ asked.cut
CountsFromOne Version = ⊤
