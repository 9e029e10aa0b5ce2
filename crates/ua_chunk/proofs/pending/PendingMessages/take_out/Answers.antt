use Rattle.std.proofs.Common.{◌≡◌, ℕ, List, [], sym, ◌∙◌, ap}
use Rattle.std.specs.Prelude.{slice_index_or}
use Rattle.std.specs.List.{remove}
use Rattle.ua_chunk.specs.declared.pending.Pending.{Pending}
use Rattle.ua_chunk.specs.Pending.{is_under, nothing_of}
use Rattle.ua_chunk.proofs.Places.{missing, found_value, found_rest}
use Rattle.ua_chunk.proofs.pending.PendingMessages.take_out.Goals as goal

nothing_with : (id : ℕ) (o : List (List ℕ)) → o ≡ [] → ◌≡◌ {A = Pending} record { request = id; chunks = 0; message = o } (nothing_of id)
nothing_with id o e = ap (λ (t : List (List ℕ)). let m : Pending = record { request = id; chunks = 0; message = t } in m) e

pub returns-in_default-clause-taken : goal.returns-in_default-clause-taken
returns-in_default-clause-taken c =
    nothing_with c.args.request c.new.result c.new.ensures
    ∙ sym ((missing (is_under c.args.request) (nothing_of c.args.request) c.args.self.now (sym c.place.ensures ∙ c.in_default.is)).1)

pub returns-in_default-clause-rest : goal.returns-in_default-clause-rest
returns-in_default-clause-rest c =
    sym ((missing (is_under c.args.request) (nothing_of c.args.request) c.args.self.now (sym c.place.ensures ∙ c.in_default.is)).0)

pub returns-clause-taken : goal.returns-clause-taken
returns-clause-taken c =
    let read : c.remove-pending.result ≡ slice_index_or c.args.self.now c.in-Some.place c.remove-pending.result = c.remove-pending.ensures.value
    ∙ ap (λ (ms : List Pending). slice_index_or ms c.in-Some.place c.remove-pending.result) c.self.view_is in
    found_value (is_under c.args.request) (nothing_of c.args.request) c.remove-pending.result c.args.self.now c.in-Some.place (sym c.place.ensures
    ∙ c.in-Some.is) read

pub returns-clause-rest : goal.returns-clause-rest
returns-clause-rest c =
    c.remove-pending.ensures.items
    ∙ ap (λ (ms : List Pending). remove ms c.in-Some.place) c.self.view_is
    ∙ found_rest (is_under c.args.request) (nothing_of c.args.request) c.args.self.now c.in-Some.place (sym c.place.ensures ∙ c.in-Some.is)
