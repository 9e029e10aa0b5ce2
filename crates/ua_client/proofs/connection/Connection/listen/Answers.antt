use Rattle.std.proofs.Common.{ℕ, List, Ok, Err, refl, sym, subst}
use Rattle.ua_channel.specs.ClientAnswers.{ClientProgress}
use Rattle.ua_channel.specs.declared.client.event.ClientEvent.{ClientEvent}
use Rattle.ua_channel.specs.declared.client.event.ClientEvent.TheVariants as event
use Rattle.ua_client.specs.Hearing.{Listens}
use Rattle.ua_client.specs.declared.connection.Connection.{Connection}
use Rattle.ua_client.specs.declared.fault.ClientFault.{ClientFault}
use Rattle.ua_client.proofs.Hearings.{took-as, took-event, listens-none, listens-some, listens-failed, listens-fault}
use Rattle.ua_client.proofs.connection.Connection.listen.Goals as goal

pub returns-in-Err : goal.returns-in-Err
returns-in-Err c =
    let new : Connection = record { alloc = c.args.self.now.alloc; channel = c.take-found.new.self; piece = c.args.self.now.piece } in
    let h = took-as c.args.self.now c.args.moment c.take-found.new.self c.untaken.result.now (Err c.in-Err.fault) c.untaken.ensures.value
    c.in-Err.ensures.answers in
    record {
      listens = subst (λ (f : ClientFault). Listens c.args.self.now new c.args.moment (Err f)) (sym c.of_take.ensures)
          (listens-fault c.args.self.now new c.args.moment c.in-Err.fault (record { same = c.take-found.ensures.same; next = c.take-found.ensures.next }) refl
          h);
    }

pub returns-in-NeedMore : goal.returns-in-NeedMore
returns-in-NeedMore c =
    let new : Connection = record { alloc = c.args.self.now.alloc; channel = c.take-found.new.self; piece = c.clear.new.self } in
    let h = took-as c.args.self.now c.args.moment c.take-found.new.self c.untaken.result.now (Ok c.in-Ok.found) c.untaken.ensures.value c.in-Ok.ensures.answers
    in
    record {
      listens = listens-none c.args.self.now new c.args.moment c.in-Ok.found.0 (record { same = c.take-found.ensures.same; next = c.take-found.ensures.next })
          c.clear.ensures
          (took-event c.args.self.now c.args.moment c.take-found.new.self c.in-Ok.found.0 c.in-Ok.found.1 event.NeedMore c.in-NeedMore.is h);
    }

pub returns-in-Failed : goal.returns-in-Failed
returns-in-Failed c =
    let new : Connection = record { alloc = c.args.self.now.alloc; channel = c.take-found.new.self; piece = c.skip.new.self } in
    let h = took-as c.args.self.now c.args.moment c.take-found.new.self c.untaken.result.now (Ok c.in-Ok.found) c.untaken.ensures.value c.in-Ok.ensures.answers
    in
    record {
      listens = subst (λ (f : ClientFault). Listens c.args.self.now new c.args.moment (Err f)) (sym c.failure.ensures)
          (listens-failed c.args.self.now new c.args.moment c.in-Ok.found.0 c.in-Failed.code c.in-Failed.peer
          (record { same = c.take-found.ensures.same; next = c.take-found.ensures.next }) c.skip.ensures
          (took-event c.args.self.now c.args.moment c.take-found.new.self c.in-Ok.found.0 c.in-Ok.found.1 (event.Failed c.in-Failed.code c.in-Failed.peer)
          c.in-Failed.is h));
    }

pub returns-in_default : goal.returns-in_default
returns-in_default c =
    let new : Connection = record { alloc = c.args.self.now.alloc; channel = c.take-found.new.self; piece = c.skip-in_default.new.self } in
    let h = took-as c.args.self.now c.args.moment c.take-found.new.self c.untaken.result.now (Ok c.in-Ok.found) c.untaken.ensures.value c.in-Ok.ensures.answers
    in
    record {
      listens = listens-some c.args.self.now new c.args.moment c.in-Ok.found.0 c.in-Ok.found.1
          (record { same = c.take-found.ensures.same; next = c.take-found.ensures.next })
          c.in_default.not-NeedMore c.in_default.not-Failed
          (subst (λ (p : List ℕ). ClientProgress {A = ClientEvent} p (Ok (c.in-Ok.found.0, c.in-Ok.found.1))) c.untaken.ensures.value c.in-Ok.ensures.progress)
          c.skip-in_default.ensures h;
    }
