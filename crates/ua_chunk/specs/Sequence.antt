-- SequenceNumbers of chunks (OPC 10000-6, 6.7.2.4): each is the one before it plus 1, up to
-- 4294966271 (FF FF FB FF, the greatest UInt32 less 1024); above that a sender starts again at a
-- number below 1024, and does so at the latest at the greatest UInt32.
use Rattle.std.specs.Prelude.{ℕ, ◌+◌, ◌==◌, nat_lt, Bool, true, ◌&&◌, ◌||◌, if◌then◌else◌, Option, Some, None, List, [], ◌∷◌}
use Rattle.ua_chunk.specs.declared.chunk.Chunk.{Chunk}

-- t may come after s: it is the next number, or s is above 4294966271 and t below 1024
abbrev pub follows : ℕ → ℕ → Bool
follows s t = (t == s + 1) || (nat_lt 4294966271 s && nat_lt t 1024)

-- t may come after the last number, if there was one
abbrev pub may_follow : Option ℕ → ℕ → Bool
may_follow None t = true
may_follow (Some s) t = follows s t

-- each number follows the one before it, and the first follows the last number, if there was one
abbrev pub ordered : Option ℕ → List Chunk → Bool
ordered last [] = true
ordered last (c ∷ cs) = may_follow last c.sequence && ordered (Some c.sequence) cs

-- the number that a sender gives the next chunk: 1 after 4294966272, else the next number
abbrev pub next_number : ℕ → ℕ
next_number s = if s == 4294966272 then 1 else s + 1
