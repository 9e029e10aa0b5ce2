-- Octets that a line moves and moments that are given, one after the other.
use Rattle.std.specs.Prelude.{ℕ, List, [], ◌∷◌, ◌++◌, Option}
use Rattle.ua_channel.specs.Line.{Traffic}
use Rattle.ua_channel.proofs.Moving.{told-then}
use Rattle.ua_server.specs.Happening.{Event, Leads}
use Rattle.ua_server.specs.ServingParts.{Exchanged}

pub gives-then : {M : Type 0} (gives : M → Event → M → Type 0) (a b c : M) (ts us : List Event) → Leads gives a ts b → Leads gives b us c
    → Leads gives a (ts ++ us) c
gives-then {M = M} gives a b c [] us g h = rw g h
gives-then gives a b c (t ∷ ts) us g h = (g.0, g.1, gives-then gives g.0 b c ts us g.2 h)

pub exchanged-then : {M : Type 0} (gives : M → Event → M → Type 0) (a b c : M) (r r' : List ℕ) (x y z : Option Traffic) (P P' Q : List ℕ → List Event → Type 0)
    (e : Exchanged gives a b r x y P) → Exchanged gives b c r' y z P' → ((w : List ℕ) (ts : List Event) → P' w ts → Q (e.written ++ w) (e.ticks ++ ts))
    → Exchanged gives a c (r ++ r') x z Q
exchanged-then gives a b c r r' x y z P P' Q e f on = record {
  written = e.written ++ f.written;
  ticks = e.ticks ++ f.ticks;
  moved = told-then r e.written r' f.written x y z e.moved f.moved;
  given = gives-then gives a b c e.ticks f.ticks e.given f.given;
  holds = on f.written f.ticks f.holds;
}
