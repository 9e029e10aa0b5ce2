-- What happened beside a server, one thing after the other.
use Rattle.std.specs.Prelude.{◌≡◌, ℕ, ℤ, List, [], ◌∷◌, ◌++◌, map, Option, Some, None, Result}
use Rattle.std.proofs.Common.{refl, sym, ◌∙◌, ap}
use Rattle.std.proofs.lemmas.List.{map-append}
use Rattle.ua_frame.specs.declared.limits.Limits.{Limits}
use Rattle.ua_channel.specs.Line.{Traffic}
use Rattle.ua_channel.specs.Moments.{GivesTimes}
use Rattle.ua_channel.specs.Received.{listed}
use Rattle.ua_server.specs.Happening.{Event, Given, Noted, ticks_in, noted_in, Leads, Happens, IsTold, WasTold}
use Rattle.ua_server.specs.Serving.{moment_of, moments_in, Serves, ServesTelling}
use Rattle.ua_server.specs.State.{State}
use Rattle.ua_server.specs.declared.serve_fault.ServeFault.{ServeFault}
use Rattle.ua_server.specs.declared.step.End.{End as Ending}
use Rattle.ua_server.specs.declared.watch.AnsweredRequest.{AnsweredRequest}

-- ---- one list behind another

ticks-append : (a b : List Event) → ticks_in (a ++ b) ≡ ticks_in a ++ ticks_in b
ticks-append [] b = refl
ticks-append (Given t ∷ a) b = rw (ticks-append a b)
ticks-append (Noted r ∷ a) b = ticks-append a b

pub moments-append : (a b : List Event) → moments_in (a ++ b) ≡ moments_in a ++ moments_in b
moments-append a b = ap (map moment_of) (ticks-append a b) ∙ map-append moment_of (ticks_in a) (ticks_in b)

pub noted-append : (a b : List Event) → noted_in (a ++ b) ≡ noted_in a ++ noted_in b
noted-append [] b = refl
noted-append (Given t ∷ a) b = noted-append a b
noted-append (Noted r ∷ a) b = rw (noted-append a b)

-- ---- moments, and then a request

-- these moments were given, and then this request was told, if it is one
abbrev pub meeting : List ℤ → Option AnsweredRequest → List Event
meeting [] None = []
meeting [] (Some r) = Noted r ∷ []
meeting (t ∷ ts) o = Given t ∷ meeting ts o

pub meeting-moments : (ts : List ℤ) (o : Option AnsweredRequest) → moments_in (meeting ts o) ≡ map moment_of ts
meeting-moments [] None = refl
meeting-moments [] (Some r) = refl
meeting-moments (t ∷ ts) o = rw (meeting-moments ts o)

pub meeting-noted : (ts : List ℤ) (o : Option AnsweredRequest) → noted_in (meeting ts o) ≡ listed o
meeting-noted [] None = refl
meeting-noted [] (Some r) = refl
meeting-noted (t ∷ ts) o = meeting-noted ts o

pub meeting-led : {M W : Type 0} (gives : M → ℤ → M → Type 0) (notes : W → AnsweredRequest → W → Type 0) (m m' : M) (w w' : W) (ts : List ℤ)
    (o : Option AnsweredRequest)
    → GivesTimes gives m ts m' → IsTold notes w o w' → Leads (Happens gives notes) (m, w) (meeting ts o) (m', w')
meeting-led {M = M} {W = W} gives notes m m' w w' [] None g h = let both : M → W → M × W = λ x y. (x, y) in rw g (ap (both m') (sym h))
meeting-led {M = M} {W = W} gives notes m m' w w' [] (Some r) g h =
    let both : M → W → M × W = λ x y. (x, y) in
    ((m, w'), (h, refl), rw g)
meeting-led gives notes m m' w w' (t ∷ ts) o g h = ((g.0, w), (g.1, refl), meeting-led gives notes g.0 m' w w' ts o g.2 h)

-- ---- some requests

leads-then : {S E : Type 0} (step : S → E → S → Type 0) (a b c : S) (es fs : List E) → Leads step a es b → Leads step b fs c → Leads step a (es ++ fs) c
leads-then {S = S} step a b c [] fs l m = rw l m
leads-then step a b c (e ∷ es) fs l m = (l.0, l.1, leads-then step l.0 b c es fs l.2 m)

pub told-none : {W : Type 0} (notes : W → AnsweredRequest → W → Type 0) (w : W) → WasTold notes w w
told-none notes w = ([], refl)

pub told-one : {W : Type 0} (notes : W → AnsweredRequest → W → Type 0) (w v : W) (o : Option AnsweredRequest) → IsTold notes w o v → WasTold notes w v
told-one notes w v None h = ([], sym h)
told-one notes w v (Some r) h = (r ∷ [], (v, h, refl))

pub told-more : {W : Type 0} (notes : W → AnsweredRequest → W → Type 0) (w v u : W) → WasTold notes w v → WasTold notes v u → WasTold notes w u
told-more notes w v u l m = (l.0 ++ m.0, leads-then notes w v u l.0 m.0 l.1 m.1)

-- ---- the moments alone

pub given-led : {M W : Type 0} (gives : M → ℤ → M → Type 0) (notes : W → AnsweredRequest → W → Type 0) (a b : M × W) (es : List Event)
    → Leads (Happens gives notes) a es b → GivesTimes gives a.0 (ticks_in es) b.0
given-led {M = M} {W = W} gives notes a b [] l = rw l
given-led gives notes a b (Given t ∷ es) l = (l.0.0, l.1.0, given-led gives notes l.0 b es l.2)
given-led {M = M} gives notes a b (Noted r ∷ es) l = rw (← l.1.1) (given-led gives notes l.0 b es l.2)

-- what is served, without a word on who is told of requests
pub serves-plain : {M W : Type 0} (limits : Limits) (channel : ℕ) (gives : M → ℤ → M → Type 0) (notes : W → AnsweredRequest → W → Type 0) (first : State)
    (a b : M × W) (result : Result Ending ServeFault) (now : State) (before after : Option Traffic)
    → ServesTelling limits channel gives notes first a result now b before after → Serves limits channel gives first a.0 result now b.0 before after
serves-plain limits channel gives notes first a b result now before after s = record {
  read = s.read;
  written = s.written;
  ticks = ticks_in s.happened;
  moved = s.moved;
  given = given-led gives notes a b s.happened s.led;
  comes_to = s.comes_to;
}
