use Rattle.std.proofs.Common.{ℕ, List, length, length-drop, arith, sym, ◌∙◌, ap, drop}
use Rattle.ua_wire.specs.Number.{number_at}
use Rattle.ua_chunk.proofs.Carried.{chunk_found}
use Rattle.ua_chunk.proofs.Layouts.{sixteen, chunk_is}
use Rattle.ua_chunk.proofs.chunk.read_chunk.Goals as goal

pub returns-clause-chunk : goal.returns-clause-chunk
returns-clause-chunk c =
    chunk_is c.args.frame c.from_octet.result c.front_number-channel.result.1.now c.front_number-token.result.1.now c.front_number-sequence.result.1.now
    c.front_number-request.result.1.now c.advance.new.self _ _ _ _ c.from_octet.ensures
    (ap (number_at 4) (sym c.deref.ensures) ∙ c.front_number-channel.ensures.value)
    c.front_number-token.ensures.value
    c.front_number-sequence.ensures.value
    c.front_number-request.ensures.value
    (c.advance.ensures
    ∙ sixteen c.args.frame.body c.front_number-channel.result.1.now c.front_number-token.result.1.now c.front_number-sequence.result.1.now
    c.front_number-request.result.1.now
    (c.front_number-channel.ensures.rest ∙ ap (drop 4) c.deref.ensures)
    c.front_number-token.ensures.rest
    c.front_number-sequence.ensures.rest
    c.front_number-request.ensures.rest)

pub returns-clause-found : goal.returns-clause-found
returns-clause-found c = chunk_found c.args.frame _ (returns-clause-chunk c)

pub front_number-channel-requires : goal.front_number-channel-requires
front_number-channel-requires c = omega (arith, c.requires.body, ap (λ (t : List ℕ). length t) c.deref.ensures)

pub front_number-token-requires : goal.front_number-token-requires
front_number-token-requires c =
    omega (
      arith,
      c.requires.body,
      ap (λ (t : List ℕ). length t) c.deref.ensures,
      ap (λ (t : List ℕ). length t) c.front_number-channel.ensures.rest,
      length-drop 4 c.deref.result.now,
    )

pub front_number-sequence-requires : goal.front_number-sequence-requires
front_number-sequence-requires c =
    omega (
      arith,
      c.requires.body,
      ap (λ (t : List ℕ). length t) c.deref.ensures,
      ap (λ (t : List ℕ). length t) c.front_number-channel.ensures.rest,
      length-drop 4 c.deref.result.now,
      ap (λ (t : List ℕ). length t) c.front_number-token.ensures.rest,
      length-drop 4 c.front_number-channel.result.1.now,
    )

pub front_number-request-requires : goal.front_number-request-requires
front_number-request-requires c =
    omega (
      arith,
      c.requires.body,
      ap (λ (t : List ℕ). length t) c.deref.ensures,
      ap (λ (t : List ℕ). length t) c.front_number-channel.ensures.rest,
      length-drop 4 c.deref.result.now,
      ap (λ (t : List ℕ). length t) c.front_number-token.ensures.rest,
      length-drop 4 c.front_number-channel.result.1.now,
      ap (λ (t : List ℕ). length t) c.front_number-sequence.ensures.rest,
      length-drop 4 c.front_number-token.result.1.now,
    )

pub from_octet-requires : goal.from_octet-requires
from_octet-requires c = c.requires.flag
