use Rattle.std.proofs.Common.{List, ℕ, ◌≡◌, [], ◌∷◌, ◌++◌, ◌∙◌, ap, append-nil, string_bytes, Option}
use Rattle.ua_chunk.specs.Delivered.{given}
use Rattle.ua_chunk.specs.View.{item_of}
use Rattle.ua_pair.specs.Before.{message_chunks}
use Rattle.ua_pair.specs.declared.pending.Pending.{Pending}
use Rattle.ua_pair.proofs.Refusals.{message_continued, message_delivered, message_fails}
use Rattle.ua_pair.proofs.Standings.{stands_message}
use Rattle.ua_pair.proofs.teller.Teller.push_message.Goals as goal

pub returns-in_ok-push_delivered-in-Ok-Some-clause-judged : goal.returns-in_ok-push_delivered-in-Ok-Some-clause-judged
returns-in_ok-push_delivered-in-Ok-Some-clause-judged c = λ before more s pending.
    let items : given (message_chunks before) c.read_chunk-chunk.result ≡ item_of c.in-Ok-Some.delivered ∷ [] =
    rw c.in-Ok-Some.field-0-is at (c.in-Ok-Some.ensures.items (message_chunks before) s.messages) in
    message_delivered c.args.self.now before c.args.place c.frame_size-size.result c.args.frame c.read_chunk-chunk.result _ _
    s c.read_chunk-chunk.ensures.found c.frame_size-size.ensures c.in_ok-push_chunk_line.ensures
    (item_of c.in-Ok-Some.delivered) (string_bytes c.push_delivered.new.lines ++ more) (c.in-Ok-Some.ensures.faults (message_chunks before) s.messages) items
    (c.in_ok-push_delivered-in-Ok-Some.ensures more pending)

pub returns-in_ok-push_delivered-in-Ok-Some-clause-stands : goal.returns-in_ok-push_delivered-in-Ok-Some-clause-stands
returns-in_ok-push_delivered-in-Ok-Some-clause-stands c = λ before s.
    stands_message c.args.self.now (record c.args.self.now { assembler = c.accept.new.self }) before c.args.frame c.read_chunk-chunk.result
    s c.requires.kind c.read_chunk-chunk.ensures.found (c.in-Ok-Some.ensures.stands (message_chunks before) s.messages) c.in-Ok-Some.ensures.last
    c.in-Ok-Some.ensures.limits

pub returns-in-Ok-None-clause-judged : goal.returns-in-Ok-None-clause-judged
returns-in-Ok-None-clause-judged c = λ before more s none.
    let items : given (message_chunks before) c.read_chunk-chunk.result ≡ [] =
    rw c.in-Ok-None.field-0-is at (c.in-Ok-None.ensures.items (message_chunks before) s.messages) in
    message_continued c.args.self.now before c.args.place c.frame_size-size.result c.args.frame c.read_chunk-chunk.result _
    (string_bytes c.push_chunk_line.new.lines ++ more)
    s c.read_chunk-chunk.ensures.found c.frame_size-size.ensures
    (ap (λ (t : List ℕ). string_bytes c.push_chunk_line.new.lines ++ t) none ∙ append-nil _ ∙ c.in_ok-push_chunk_line.ensures)
    (c.in-Ok-None.ensures.faults (message_chunks before) s.messages) items

pub returns-in-Ok-None-clause-stands : goal.returns-in-Ok-None-clause-stands
returns-in-Ok-None-clause-stands c = λ before s.
    stands_message c.args.self.now (record c.args.self.now { assembler = c.accept.new.self }) before c.args.frame c.read_chunk-chunk.result
    s c.requires.kind c.read_chunk-chunk.ensures.found (c.in-Ok-None.ensures.stands (message_chunks before) s.messages) c.in-Ok-None.ensures.last
    c.in-Ok-None.ensures.limits

pub returns-in-Err-clause-judged : goal.returns-in-Err-clause-judged
returns-in-Err-clause-judged c = λ before more s pending.
    message_fails (Option Pending) c.args.self.now before c.args.place c.args.frame c.read_chunk-chunk.result c.in-Err.fault c.from_chunk.result _ _
    s c.read_chunk-chunk.ensures.found (c.in-Err.ensures.faults (message_chunks before) s.messages) c.from_chunk.ensures
