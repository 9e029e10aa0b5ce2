-- That an event hands a message out in the parts that an assembler delivered.
use Rattle.std.proofs.Common.{◌≡◌, ℕ, List, Option, Some, None, refl, sym, subst}
use Rattle.ua_chunk.specs.declared.chunk.Chunk.{Chunk}
use Rattle.ua_chunk.specs.declared.delivered.Delivered.{Delivered}
use Rattle.ua_chunk.specs.declared.delivered.Delivered.TheVariants.{Whole, Aborted}
use Rattle.ua_chunk.specs.Gathered.{bodies, gathered}
use Rattle.ua_chunk.specs.View.{HasParts}
use Rattle.ua_channel.specs.Content.Content.{Sends}
use Rattle.ua_channel.specs.inside.Parts.{MayEndIn, parts_in}

delivered_in : (before : List Chunk) (c : Chunk) (d : Option Delivered) → HasParts d (bodies (gathered before c)) → MayEndIn before (Sends c) (parts_in d)
delivered_in before c None h = tt
delivered_in before c (Some (Whole id message)) h = record { chunk = c; carries = refl; parts_are = h }
delivered_in before c (Some (Aborted id code reason)) h = tt

pub ends_in : (before : List Chunk) (c : Chunk) (d : Option Delivered) (parts : Option (List (List ℕ))) → parts ≡ parts_in d
    → HasParts d (bodies (gathered before c)) → MayEndIn before (Sends c) parts
ends_in before c d parts is h = subst (MayEndIn before (Sends c)) (sym is) (delivered_in before c d h)
