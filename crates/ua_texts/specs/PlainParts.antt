-- The texts of parts of values by their names, for people to read.
use Rattle.std.specs.Prelude.{◌≡◌, ℕ, ℤ, Bool, true, List, [], ◌++◌, Option, Some, None, codes}
use Rattle.std.specs.Fmt.{decimal, signed_decimal}
use Rattle.ua_builtin.specs.declared.date_time.DateTime.{DateTime}
use Rattle.ua_builtin.specs.declared.status_code.StatusCode.{StatusCode}
use Rattle.ua_texts.specs.Marks.{marked, of}
use Rattle.ua_texts.specs.PlainLeaf.{IsPlainMoment, plain_code}

-- a name between spaces, and the text after it
abbrev pub named_part : List ℕ → List ℕ → List ℕ
named_part name text = codes " " ++ (name ++ (codes " " ++ text))

-- a number by its name, if there is one
abbrev pub number_part : List ℕ → Option ℤ → List ℕ
number_part name None = []
number_part name (Some n) = named_part name (signed_decimal n)

-- a text in brackets by its name, if there is one
abbrev pub text_part : List ℕ → Option (List ℕ) → List ℕ
text_part name None = []
text_part name (Some text) = named_part name (codes "(" ++ (marked (of true) text ++ codes ")"))

-- a status by its name, if there is one
abbrev pub status_part : Bool → List ℕ → Option StatusCode → List ℕ
status_part names name None = []
status_part names name (Some status) = named_part name (plain_code names status.code)

-- a timestamp by its name, if there is one
abbrev pub IsMomentPart : List ℕ → Option DateTime → List ℕ → Type 0
IsMomentPart name None text = text ≡ []
IsMomentPart name (Some t) text = (moment : List ℕ) × (text ≡ named_part name moment) × IsPlainMoment t moment

-- picoseconds by the name of their timestamp, if there are any, in units of 10 (OPC 10000-6,
-- 5.2.2.17)
abbrev pub picoseconds_part : List ℕ → Option ℕ → List ℕ
picoseconds_part name None = []
picoseconds_part name (Some n) = codes " " ++ (name ++ (codes "_picoseconds " ++ decimal n))

-- a timestamp, and the picoseconds to be added to it
abbrev pub IsTimePart : List ℕ → Option DateTime → Option ℕ → List ℕ → Type 0
IsTimePart name t n text = (moment : List ℕ) × (text ≡ moment ++ picoseconds_part name n) × IsMomentPart name t moment
