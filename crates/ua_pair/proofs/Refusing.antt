-- A dissector that met a frame that is refused.
use Rattle.std.proofs.Common.{◌≡◌, ◌++◌, [], ap, append-nil, refl, subst, sym, ℕ, List, true, false}
use Rattle.ua_frame.specs.declared.frame.Frame.{Frame}
use Rattle.ua_frame.specs.Run.{End, Going, Stopped, Over}
use Rattle.ua_pair.specs.declared.dissector.Dissector.{Dissector}
use Rattle.ua_pair.specs.declared.dissector.State.{State}
use Rattle.ua_pair.specs.declared.dissector.State.TheVariants as state
use Rattle.ua_pair.specs.declared.options.DissectOptions.{DissectOptions}
use Rattle.ua_pair.specs.Dissecting.{DissectorStandsAt, StandsBehind, TellsMore, is_dissecting, is_refused, is_stopped}
use Rattle.ua_pair.proofs.Dissections.{stays}

refused_at : (d : Dissector) (options : DissectOptions) (fs : List Frame) (rest : List ℕ) (end : End ℕ) → DissectorStandsAt d options fs rest end
    → is_refused d.state ≡ is_stopped end
refused_at d options fs rest Going at = ap is_refused at.state
refused_at d options fs rest (Stopped code) at = ap is_refused at.state
refused_at d options fs rest Over at = absurd at

-- it met one exactly where the octets end at one
pub refused_is : (d : Dissector) (options : DissectOptions) (octets told : List ℕ) (s : StandsBehind d options octets told)
    → is_refused d.state ≡ is_stopped s.are.end
refused_is d options octets told s = refused_at d options s.are.frames s.are.rest s.are.end s.at

goes_no_further : (s : State) → is_refused s ≡ true → is_dissecting s ≡ false
goes_no_further state.Going refused = absurd cc
goes_no_further (state.Refused code) refused = refl
goes_no_further state.Closed refused = absurd cc

-- behind one it stays where it is
pub refused_stays : (d : Dissector) (options : DissectOptions) (octets told more : List ℕ) → is_refused d.state ≡ true → StandsBehind d options octets told
    → StandsBehind d options (octets ++ more) told
refused_stays d options octets told more refused s = stays d options octets told more (goes_no_further d.state refused) s

-- and says no more, whatever comes
pub says_no_more : (d : Dissector) (options : DissectOptions) (octets told piece text : List ℕ) → is_refused d.state ≡ true → StandsBehind d options octets told
    → TellsMore d options (octets ++ piece) told text text
says_no_more d options octets told piece text refused s = record {
  lines = [];
  added = sym (append-nil text);
  stands = subst (λ (t : List ℕ). StandsBehind d options (octets ++ piece) t) (sym (append-nil told)) (refused_stays d options octets told piece refused s);
}
