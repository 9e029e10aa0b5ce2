-- What lists of chunks deliver: at each F the bodies of its message, joined, and at each A the code
-- and the reason for which its message is aborted (OPC 10000-6, 6.7.2 and 6.7.3). So C (3, 01 02),
-- C (5, 0A), F (3, 03), F (5, 0B), of these RequestIds and bodies, deliver 01 02 03 under 3, and
-- then 0A 0B under 5.
use Rattle.std.specs.Prelude.{ℕ, Option, Some, None, List, [], ◌∷◌}
use Rattle.ua_builtin.specs.declared.status_code.StatusCode.{StatusCode}
use Rattle.ua_frame.specs.After.{each_from, each_after}
use Rattle.ua_chunk.specs.declared.chunk.Chunk.{Chunk}
use Rattle.ua_chunk.specs.declared.flag.Flag.{Flag}
use Rattle.ua_chunk.specs.declared.flag.Flag.TheVariants.{F, C, A}
use Rattle.ua_chunk.specs.Abort.{abort_of}
use Rattle.ua_chunk.specs.Gathered.{gathered, joined}
use Rattle.ua_chunk.specs.Item.{Item}
use Rattle.ua_chunk.specs.Item.Item.{Whole, Aborted}

-- an abort that can be decoded, under its RequestId
abbrev pub aborted : ℕ → Option (StatusCode × Option (List ℕ)) → List Item
aborted id None = []
aborted id (Some a) = Aborted id a.0 a.1 ∷ []

-- what a chunk delivers, by its flag: an F the joined bodies of its message, a C nothing, an A its
-- code and reason
abbrev pub given_by : Flag → List Chunk → Chunk → List Item
given_by F before c = Whole c.request (joined (gathered before c)) ∷ []
given_by C before c = []
given_by A before c = aborted c.request (abort_of c.body)

-- what a chunk delivers that is after these: an F the joined bodies of its message, an A its code
-- and reason
abbrev pub given : List Chunk → Chunk → List Item
given before c = given_by c.flag before c

-- what each chunk of a list delivers after those before it, those of the first list among them
abbrev pub delivered_behind : List Chunk → List Chunk → List Item
delivered_behind before cs = each_from given before cs

-- what a list of chunks delivers: what each of them delivers after those before it, in order
abbrev pub delivered : List Chunk → List Item
delivered cs = each_after given cs
