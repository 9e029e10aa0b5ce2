use Rattle.std.proofs.Common.{refl, sym, ap, take, ◌∙◌}
use Rattle.std.proofs.lemmas.List.{take_at}
use Rattle.ua_chunk.specs.Cutting.{chunks_octets, chunks_of}
use Rattle.ua_channel.proofs.AskAnswers.{full_answers, cut_answers, call_answers, id_fits, behind_those, no_fewer, appended_len, calls_behind}
use Rattle.ua_channel.proofs.ChunkFrames.{appended_framed}
use Rattle.ua_channel.proofs.ClientAsking.{talks_call, few_calls}
use Rattle.ua_channel.proofs.client.talking.Talking.ask.Goals as goal

pub returns-in-Some-clause-answers : goal.returns-in-Some-clause-answers
returns-in-Some-clause-answers c = full_answers c.args.self.now c.args.body.now c.in-Some.fault (sym c.full.ensures ∙ c.in-Some.is)

pub returns-in-Some-clause-unchanged : goal.returns-in-Some-clause-unchanged
returns-in-Some-clause-unchanged c = (record { rest = refl; pending = refl }, refl)

pub cut-requires-clause-room : goal.cut-requires-clause-room
cut-requires-clause-room c = c.lane-lane.ensures.room

pub cut-requires-clause-size : goal.cut-requires-clause-size
cut-requires-clause-size c = c.lane-lane.ensures.size

pub cut-requires-clause-body : goal.cut-requires-clause-body
cut-requires-clause-body c = c.requires

pub cut-requires-clause-sequence : goal.cut-requires-clause-sequence
cut-requires-clause-sequence c = c.number.ensures.range.1

pub returns-in-Err-clause-answers : goal.returns-in-Err-clause-answers
returns-in-Err-clause-answers c =
    cut_answers c.args.self.now c.args.body.now c.lane-lane.result c.in-Err.fault c.from_cut.result (sym c.full.ensures ∙ c.in_default.is)
    c.lane-lane.ensures.lane c.in-Err.ensures.faults c.from_cut.ensures

pub returns-in-Err-clause-unchanged : goal.returns-in-Err-clause-unchanged
returns-in-Err-clause-unchanged c = (record { rest = refl; pending = refl }, refl)

pub returns-in-Err-clause-err : goal.returns-in-Err-clause-err
returns-in-Err-clause-err c = c.in-Err.ensures.err

pub overflow_add-self : goal.overflow_add-self
overflow_add-self c = id_fits c.args.self.now (sym c.full.ensures ∙ c.in_default.is)

pub go_on-requires : goal.go_on-requires
go_on-requires c = c.in-Ok.ensures.range

pub overflow_sub-result : goal.overflow_sub-result
overflow_sub-result c =
    no_fewer c.len-before.result c.len.result c.args.out.now.items c.cut.new.out.items
    (chunks_octets (chunks_of c.lane-lane.result c.args.body.now c.number.result c.args.self.now.next)) (c.len-before.ensures ∙ c.args.out.now.ok.0)
    (c.len.ensures ∙ c.cut.new.out.ok.0)
    c.in-Ok.ensures.chunks

pub returns-in-Ok-push-clause-answers : goal.returns-in-Ok-push-clause-answers
returns-in-Ok-push-clause-answers c =
    call_answers c.args.self.now c.args.body.now c.lane-lane.result (sym c.full.ensures ∙ c.in_default.is) c.lane-lane.ensures.lane c.in-Ok.ensures.faults

pub returns-in-Ok-push-clause-behind : goal.returns-in-Ok-push-clause-behind
returns-in-Ok-push-clause-behind c =
    behind_those c.args.out.now.items c.cut.new.out.items
    (chunks_octets (chunks_of c.lane-lane.result c.args.body.now c.number.result c.args.self.now.next)) c.in-Ok.ensures.chunks

pub returns-in-Ok-push-clause-len : goal.returns-in-Ok-push-clause-len
returns-in-Ok-push-clause-len c =
    appended_len c.len-before.result c.len.result c.args.out.now.items c.cut.new.out.items (c.len-before.ensures ∙ c.args.out.now.ok.0)
    (c.len.ensures ∙ c.cut.new.out.ok.0)

pub returns-in-Ok-push-clause-asked : goal.returns-in-Ok-push-clause-asked
returns-in-Ok-push-clause-asked c =
    calls_behind c.args.self.now c.lane-lane.result c.number.result c.args.numbers.now.next c.args.body.now c.args.out.now.items c.cut.new.out.items
    c.in-Ok.next c.go_on.new.self.next c.lane-lane.ensures.lane c.number.ensures.number c.in-Ok.ensures.chunks c.in-Ok.ensures.next c.go_on.ensures

pub returns-in-Ok-push-clause-frames : goal.returns-in-Ok-push-clause-frames
returns-in-Ok-push-clause-frames c =
    appended_framed c.args.out.now.items c.cut.new.out.items c.lane-lane.result c.args.body.now c.number.result c.args.self.now.next
    c.in-Ok.ensures.chunks c.lane-lane.ensures.room c.requires

pub returns-in-Ok-push-clause-talks : goal.returns-in-Ok-push-clause-talks
returns-in-Ok-push-clause-talks c = λ limits before asked h.
    talks_call limits c.args.self.now _ before asked h refl c.in-Ok-push.ensures.items (few_calls c.args.self.now (sym c.full.ensures ∙ c.in_default.is))

pub returns-in-Err-push-clause-answers : goal.returns-in-Err-push-clause-answers
returns-in-Err-push-clause-answers c =
    call_answers c.args.self.now c.args.body.now c.lane-lane.result (sym c.full.ensures ∙ c.in_default.is) c.lane-lane.ensures.lane c.in-Ok.ensures.faults

pub returns-in-Err-push-clause-unchanged : goal.returns-in-Err-push-clause-unchanged
returns-in-Err-push-clause-unchanged c = (record { rest = refl; pending = c.in-Err-push.ensures.items }, refl)

pub returns-in-Err-push-clause-err : goal.returns-in-Err-push-clause-err
returns-in-Err-push-clause-err c =
    c.truncate.ensures.items
    ∙ ap (take c.len-before.result) c.in-Ok.ensures.chunks
    ∙ take_at c.args.out.now.items (chunks_octets (chunks_of c.lane-lane.result c.args.body.now c.number.result c.args.self.now.next)) c.len-before.result
    (sym (c.len-before.ensures ∙ c.args.out.now.ok.0))
