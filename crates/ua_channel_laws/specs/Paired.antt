-- The outcomes of a client's calls: each with what the server's chunks deliver under its RequestId.
use Rattle.std.specs.Prelude.{ℕ, Bool, true, false, List, [], ◌∷◌, Option, Some, None, map}
use Rattle.std.specs.List.{filter}
use Rattle.ua_chunk.specs.declared.chunk.Chunk.{Chunk}
use Rattle.ua_chunk.specs.Delivered.{delivered}
use Rattle.ua_chunk.specs.Item.{Item}
use Rattle.ua_chunk.specs.Merge.{is_item_of}
use Rattle.ua_channel.specs.Asks.{Asking, calls}
use Rattle.ua_channel.specs.ClientTold.{ClientTold}
use Rattle.ua_channel.specs.ClientTold.ClientTold.{Answered, GaveUp}
use Rattle.ua_channel.specs.Received.{listed}

-- the first of these, if there is one
abbrev pub first : {A : Type 0} → List A → Option A
first [] = None
first (x ∷ xs) = Some x

-- all that chunks deliver under a RequestId
abbrev pub delivered_under : ℕ → List Chunk → List Item
delivered_under id cs = filter (is_item_of id) (delivered cs)

-- a RequestId with the first that chunks deliver under it, if they deliver something
abbrev pub with_first_item : List Chunk → ℕ → ℕ × Option Item
with_first_item cs id = (id, first (delivered_under id cs))

-- a RequestId with all that chunks deliver under it
abbrev pub with_all : List Chunk → ℕ → ℕ × List Item
with_all cs id = (id, delivered_under id cs)

-- a pair of a RequestId and an item, or none, with the item as a list
abbrev pub as_list : ℕ × Option Item → ℕ × List Item
as_list p = (p.0, listed p.1)

-- each call, by its RequestId, with what chunks deliver under that, if they do: a whole message, or
-- the code with which it was aborted
unfoldable pub paired : List Asking → List Chunk → List (ℕ × Option Item)
paired asked cs = map (with_first_item cs) (calls asked)

-- it is told of a call: the reply to it, or that the server aborted it
abbrev pub is_of_call : ClientTold → Bool
is_of_call (Answered id octets) = true
is_of_call (GaveUp id code) = true
is_of_call other = false

-- what of this is told of calls, in order
abbrev pub told_of_calls : List ClientTold → List ClientTold
told_of_calls told = filter is_of_call told
