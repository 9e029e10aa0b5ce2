use Rattle.std.proofs.Common.{◌≡◌, ℕ, ◌++◌, ◌-◌, List, drop, length, refl, sym, ap, ◌∙◌, arith, subst}
use Rattle.std.proofs.lemmas.List.{drop_at}
use Rattle.ua_builtin.specs.declared.status_code.StatusCode.{StatusCode}
use Rattle.ua_structures.specs.declared.attribute.WriteValue.{WriteValue}
use Rattle.ua_nodes.specs.Limit.{answers_within, items_left, items_within, nodes_memory, room_left}
use Rattle.ua_nodes.specs.Sound.{AreNodesSound}
use Rattle.ua_nodes.specs.Write.{after_write}
use Rattle.ua_nodes.proofs.Limits.{left_within, room_is}
use Rattle.ua_nodes.proofs.SoundWrite.{write_sound}
use Rattle.ua_nodes.proofs.table.NodeTable.write_items_within.Goals as goal

pub returns-clause-answers : goal.returns-clause-answers
returns-clause-answers c =
    let nodes = c.args.self.now in
    let room : c.saturating_sub-room.result ≡ room_left c.args.most nodes = c.saturating_sub-room.ensures ∙ ap (λ (n : ℕ). c.args.most - n) c.memory.ensures
    ∙ room_is c.args.most (nodes_memory nodes) (omega arith) in
    c.judge_items.ensures ∙ ap (λ (is : List WriteValue). c.args.statuses.now.items ++ answers_within c.saturating_sub-room.result nodes is)
    c.as_slice.ensures.value
    ∙ ap (λ (r : ℕ). c.args.statuses.now.items ++ answers_within r nodes c.args.items.items) room

pub returns-clause-nodes : goal.returns-clause-nodes
returns-clause-nodes c =
    let nodes = c.args.self.now in
    let items = c.args.items.items in
    let old = c.args.statuses.now.items in
    let all = answers_within (room_left c.args.most nodes) nodes items in
    let first = length c.as_slice-first.result.now in
    let codes : c.codes_from-codes.result.now ≡ all =
    c.codes_from-codes.ensures ∙ ap (drop first) (c.as_slice-2.ensures.value ∙ returns-clause-answers c)
    ∙ drop_at old all first (sym (ap length c.as_slice-first.ensures.value)) in
    c.store_items.ensures ∙ ap (λ (is : List StatusCode). after_write (items_left items is) c.args.moment nodes) codes
    ∙ ap (λ (is : List WriteValue). after_write is c.args.moment nodes) (left_within (room_left c.args.most nodes) nodes items)

pub returns-clause-sound : goal.returns-clause-sound
returns-clause-sound c = λ before.
    subst AreNodesSound (sym (returns-clause-nodes c))
    (write_sound (items_within (room_left c.args.most c.args.self.now) c.args.self.now c.args.items.items) c.args.moment c.args.self.now
    c.moment_is_encodable.ensures before)
