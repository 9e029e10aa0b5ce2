use Rattle.std.proofs.Common.{◌≡◌, ◌∙◌, List, OnOk, Option, Some, ap, map, subst, ℕ}
use Rattle.ua_builtin.specs.declared.date_time.DateTime.{DateTime}
use Rattle.ua_frame.specs.declared.limits.Limits.{Limits}
use Rattle.ua_server.specs.State.{State, fresh}
use Rattle.ua_client.specs.declared.reply.Reply.{Reply}
use Rattle.ua_loopback.specs.Beginning.{Beginning}
use Rattle.ua_loopback.specs.Replies.{replies_to_turns, turns_state}
use Rattle.ua_loopback.specs.Says.{server_output}
use Rattle.ua_loopback.specs.Times.{time_at}
use Rattle.ua_exchange.specs.Programs.{begun_over, channel, url}
use Rattle.ua_exchange.specs.Turns.{served_turns}
use Rattle.ua_exchange.specs.inside.Conversed.{ConversesBy}
use Rattle.ua_exchange.proofs.Conversed.{endpoint_fits}
use Rattle.ua_exchange.proofs.Words.{limits_are}
use Rattle.ua_exchange.proofs.exchanging.conversed.Goals as goal

pub new-services-requires-clause-fits : goal.new-services-requires-clause-fits
new-services-requires-clause-fits c = endpoint_fits c.in_ok-about.about c.in_ok-about.ensures

pub returns : goal.returns
returns c =
    let e = c.converse.ensures in
    let t = c.converse.result in
    let turns = served_turns c.args.turns.now in
    let times = λ (later : List DateTime). time_at c.args.moment later in
    let begun : List DateTime → Beginning = λ (later : List DateTime).
    record { limits = c.limits.result; channel = channel; first = c.new-services.result; moments = times later } in
    let none = c.new.ensures.items in
    let by : ConversesBy c.limits.result c.in_ok-address.address c.new-services.result c.args.moment c.args.turns.now c.converse.result =
    record {
      down = subst (λ (later : List DateTime). t.down.items ≡ server_output (begun later) t.up.items) none e.down;
      closed = e.closed;
      sent = e.sent;
      heard = e.heard;
      replied =
          subst (λ (later : List DateTime). OnOk t.outcome (map (λ (r : Reply). Some r) t.replies.items
          ≡ replies_to_turns (begun later) c.limits.result c.in_ok-address.address c.new-services.result 1 1 turns)) none e.replied;
      state = subst (λ (later : List DateTime). OnOk t.outcome (t.services ≡ turns_state c.new-services.result (times later) 1 turns)) none e.state;
      accepted = e.accepted;
      refused = e.refused;
      fails = e.fails;
    } in
    subst (λ (l : Limits). ConversesBy l (Some url) (begun_over c.args.table) c.args.moment c.args.turns.now c.converse.result)
    (limits_are c.limits.result c.limits.ensures)
    (subst (λ (u : Option (List ℕ)). ConversesBy c.limits.result u (begun_over c.args.table) c.args.moment c.args.turns.now c.converse.result)
    c.in_ok-address.ensures
    (subst (λ (s : State). ConversesBy c.limits.result c.in_ok-address.address s c.args.moment c.args.turns.now c.converse.result) (c.new-services.ensures
    ∙ ap (fresh c.args.table) c.in_ok-about.ensures) by))
