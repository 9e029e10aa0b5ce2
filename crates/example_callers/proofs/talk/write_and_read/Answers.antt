use Rattle.std.specs.Prelude.{Ok}
use Rattle.std.proofs.Common.{◌∙◌, inl, inr}
use Rattle.ua_client.specs.Client.{OpensClient}
use Rattle.example_callers.proofs.Talks.{as_list}
use Rattle.example_callers.proofs.talk.write_and_read.Goals as goal

pub returns-clause-talks : goal.returns-clause-talks
returns-clause-talks g c =
    let begun : OpensClient c.args.limits c.args.url c.args.moment (g.L.Line.traffic c.args.line.now) (g.L.Line.traffic c.open.new.line)
    (Ok c.in_ok-client.client) =
    elim c.in_ok-client.ensures.opens [
      | inl h ↦ absurd cc
      | inr o ↦ o
    ] in
    let ready = begun.over.1 in
    let serving = c.in_ok-token.ensures.left ready in
    let called = c.in_ok-replies.ensures.left serving in
    record {
      opened = c.in_ok-client.client;
      behind_open = g.L.Line.traffic c.open.new.line;
      opens = begun;
      token = c.in_ok-token.token;
      serving = c.begin_session.new.self;
      behind_session = g.L.Line.traffic c.begin_session.new.line;
      begins = c.in_ok-token.ensures.begins ready;
      called = c.call_all.new.self;
      behind_calls = g.L.Line.traffic c.call_all.new.line;
      calls = as_list _ _ _ _ _ _ _ _ (c.deref.ensures.value ∙ c.in_ok-requests.ensures) (c.in_ok-replies.ensures.calls serving);
      closes = c.in_ok-close.ensures.closes called;
    }
