use Rattle.std.proofs.Common.{◌≡◌, Result, Err, refl, sym, subst, inl, inr}
use Rattle.ua_client.specs.declared.client.Client.{Client}
use Rattle.ua_client.specs.declared.fault.ClientFault.{ClientFault}
use Rattle.ua_client.specs.declared.fault.ClientFault.TheVariants as fault
use Rattle.ua_client.proofs.Openings.{fresh-goes, opens-as, breaks-as}
use Rattle.ua_client.proofs.Standing.{stands-opened}
use Rattle.ua_client.proofs.client.Client.open.Goals as goal

pub returns-in-Err-clause-opens : goal.returns-in-Err-clause-opens
returns-in-Err-clause-opens g c =
    let h = c.in-Err.ensures.memory in
    let e : c.in-Err.fault ≡ fault.OutOfMemory = cc in
    inl (subst (λ (f : ClientFault). ◌≡◌ {A = Result Client ClientFault} (Err f) (Err fault.OutOfMemory)) (sym e) refl, refl)

pub returns-in-Ok-open-clause-opens : goal.returns-in-Ok-open-clause-opens
returns-in-Ok-open-clause-opens g c =
    inr (record {
      begun = c.in-Ok.connection;
      fresh = record {
        goes = fresh-goes c.in-Ok.connection.channel c.in-Ok.ensures.stands;
        untaken = c.in-Ok.ensures.untaken;
        limits_are = c.in-Ok.ensures.limits;
        url_is = c.in-Ok.ensures.url;
        next_is = c.in-Ok.ensures.next;
      };
      last = c.open.new.self;
      opens = opens-as c.args.moment c.in-Ok.connection c.open.new.self (g.L.Line.traffic c.args.line.now) (g.L.Line.traffic c.open.new.line)
          c.in-Ok-open.field-0 _ c.in-Ok-open.ensures.opens;
      over = (refl, refl);
    })

pub returns-in-Err-open-clause-opens : goal.returns-in-Err-open-clause-opens
returns-in-Err-open-clause-opens g c =
    inr (record {
      begun = c.in-Ok.connection;
      fresh = record {
        goes = fresh-goes c.in-Ok.connection.channel c.in-Ok.ensures.stands;
        untaken = c.in-Ok.ensures.untaken;
        limits_are = c.in-Ok.ensures.limits;
        url_is = c.in-Ok.ensures.url;
        next_is = c.in-Ok.ensures.next;
      };
      last = c.open.new.self;
      opens = breaks-as c.args.moment c.in-Ok.connection c.open.new.self (g.L.Line.traffic c.args.line.now) (g.L.Line.traffic c.open.new.line)
          c.in-Err-open.fault c.in-Err-open.ensures.opens;
      over = tt;
    })

pub invariant_of-result : goal.invariant_of-result
invariant_of-result g c = record {
  settled = λ ready. stands-opened c.clients_are_settled.ensures.opened c.args.moment c.in-Ok.connection c.open.new.self (g.L.Line.traffic c.args.line.now)
      (g.L.Line.traffic c.open.new.line) tt
      (fresh-goes c.in-Ok.connection.channel c.in-Ok.ensures.stands) c.in-Ok-open.ensures.opens;
}
