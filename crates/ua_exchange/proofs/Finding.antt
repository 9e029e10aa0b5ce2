-- How the first renewal is found for which too many tokens are held.
use Rattle.std.proofs.Common.{◌≡◌, ℕ, ◌+◌, ◌<◌, ◌≤◌, true, false, List, [], ◌∷◌, ◌++◌, get_or, length, take, drop, sym, ◌∙◌, ap, subst, arith, append_assoc}
use Rattle.std.proofs.lemmas.List.{length-take-le, take-append-drop, take_more}
use Rattle.ua_frame.proofs.Afters.{AllAfter-nil, AllAfter-push}
use Rattle.ua_exchange.specs.inside.Counting.{is_crowded}
use Rattle.ua_exchange.specs.declared.turn.Turn.{Turn}
use Rattle.ua_exchange.specs.inside.Counting.{CountsLast, FirstCrowded, HaveRoom}
use Rattle.ua_exchange.proofs.Counting.{counts-none}

-- the turns up to this index were counted, and there is room for each renewal among them
pub record CountedSoFar (turns : List Turn) (index renewals calls : ℕ) : Type 0 where
  pub counts : CountsLast (take index turns) renewals calls
  pub have_room : HaveRoom (take index turns)
  pub few : renewals + calls ≤ index

pub counted-first : (turns : List Turn) → CountedSoFar turns 0 0 0
counted-first turns = record {
  counts = counts-none;
  have_room = AllAfter-nil (λ (before : List Turn) (t : Turn). is_crowded before t ≡ false);
  few = omega arith;
}

-- the turns up to the next one
turns-on : (turns : List Turn) (index : ℕ) (t : Turn) → index < length turns → t ≡ get_or turns index t → take (index + 1) turns ≡ take index turns ++ t ∷ []
turns-on turns index t less is = take_more turns index t less ∙ ap (λ (u : Turn). take index turns ++ u ∷ []) (sym is)

module _ (turns : List Turn) (index renewals calls : ℕ) (so : CountedSoFar turns index renewals calls) where
  module _ (t : Turn) (less : index < length turns) (is : t ≡ get_or turns index t) where
    pub counted-more : is_crowded (take index turns) t ≡ false → (more others : ℕ)
        → ((before : List Turn) → CountsLast before renewals calls → CountsLast (before ++ t ∷ []) more others) → more + others ≤ renewals + calls + 1
        → CountedSoFar turns (index + 1) more others
    counted-more room more others counts few = record {
      counts = subst (λ (ts : List Turn). CountsLast ts more others) (sym (turns-on turns index t less is)) (counts (take index turns) so.counts);
      have_room = subst HaveRoom (sym (turns-on turns index t less is))
          (AllAfter-push (λ (before : List Turn) (u : Turn). is_crowded before u ≡ false) (take index turns) t so.have_room room);
      few = let was = so.few in omega (arith, few, was);
    }

    pub crowded-here : is_crowded (take index turns) t ≡ true → FirstCrowded turns index
    crowded-here crowded = record {
      before = take index turns;
      turn = t;
      behind = drop (index + 1) turns;
      parts =
          sym (take-append-drop (index + 1) turns)
          ∙ (ap (λ (ts : List Turn). ts ++ drop (index + 1) turns) (turns-on turns index t less is)
          ∙ append_assoc (take index turns) (t ∷ []) (drop (index + 1) turns));
      place_is = length-take-le index turns (omega (arith, less));
      have_room = so.have_room;
      crowded = crowded;
    }
