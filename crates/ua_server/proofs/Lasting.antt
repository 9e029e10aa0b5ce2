-- What is said over events and not written yet, beside an application.
use Rattle.std.proofs.Common.{refl, sym, ◌∙◌, ap, inl, append_assoc, append-nil}
use Rattle.std.specs.Prelude.{◌≡◌, List, [], ◌∷◌, true, false, ℕ, ◌++◌, pos}
use Rattle.ua_channel.specs.Received.{listed}
use Rattle.ua_frame.specs.declared.limits.Limits.{Limits}
use Rattle.ua_server.proofs.Acting.{acted-behind, acting-append, acts-became, moments_of-append, requests_over-append, silent-append, told_in-append}
use Rattle.ua_server.proofs.Histories.{history-became, output_over-append}
use Rattle.ua_server.proofs.LeftOver.{no-words}
use Rattle.ua_server.specs.Happening.{Event}
use Rattle.ua_server.specs.History.{ConnectionEvent, Became, course_over, heard_at, output_over, told_in, moments_of}
use Rattle.ua_server.specs.Said.{start}
use Rattle.ua_server.specs.Served.{channel_in}
use Rattle.ua_server.specs.Serving.{Nothing, told_at}
use Rattle.ua_server.specs.ServingOver.{IsSilent, LastSaid, has_acted, requests_over}
use Rattle.ua_server.specs.ServingParts.{BeginsServing, OwesNothing}
use Rattle.ua_server.specs.State.{State, with_nodes}
use Rattle.ua_server.specs.declared.serving.Serving.{Serving}

module _ (limits : Limits) (channel : ℕ) (first : State) where
  -- more octets are read, and nothing is answered at the events behind
  pub last-on : (read more out written : List ℕ) (hs later : List ConnectionEvent) → IsSilent later → LastSaid limits channel first read out written hs
      → LastSaid limits channel first (read ++ more) out written (hs ++ later)
  last-on read more out written hs later quiet p = record {
    front = p.front;
    behind = p.behind ++ more;
    front_is = rw p.front_is (append_assoc p.front p.behind more);
    before = p.before;
    word = p.word;
    moment = p.moment;
    later = p.later ++ later;
    history_is = rw p.history_is (append_assoc p.before (heard_at p.moment (told_at p.word) ++ p.later) later
        ∙ rw (append_assoc (heard_at p.moment (told_at p.word)) p.later later));
    silent = silent-append p.later later p.silent quiet;
    ends = p.ends;
    part = p.part;
    written_is = p.written_is;
    said_is = p.said_is;
  }

  -- more octets are read
  pub last-read : (read more out written : List ℕ) (hs : List ConnectionEvent) → LastSaid limits channel first read out written hs
      → LastSaid limits channel first (read ++ more) out written hs
  last-read read more out written hs p = rw (← append-nil hs) (last-on read more out written hs [] tt p)

  -- more octets are written
  abbrev pub last-written : (read out written : List ℕ) (hs : List ConnectionEvent) (done unwritten : List ℕ) → out ≡ done ++ unwritten
      → LastSaid limits channel first read out written hs → LastSaid limits channel first read unwritten (written ++ done) hs
  last-written read out written hs done unwritten e p = record {
    front = p.front;
    behind = p.behind;
    front_is = p.front_is;
    before = p.before;
    word = p.word;
    moment = p.moment;
    later = p.later;
    history_is = p.history_is;
    silent = p.silent;
    ends = p.ends;
    part = p.part ++ done;
    written_is = rw p.written_is (append_assoc (output_over channel (start first []) p.before) p.part done);
    said_is = p.said_is ∙ (rw e (sym (append_assoc written done unwritten)));
  }

module _ {A : Type 0} (changes : A → State → A → State → Type 0) where
  -- before any octet
  pub keeps-first : (x : Serving) (limits : Limits) (channel : ℕ) (first : State × A) → BeginsServing x limits channel
      → OwesNothing changes x limits channel first [] [] [] first
  keeps-first x limits channel first b = record {
    limits_is = b.limits_is;
    channel_is = b.channel_is;
    history = [];
    acted = refl;
    acts_first = tt;
    moments_are = sym (ap listed b.none_kept);
    stands = b.stands first.0;
    kept_is = rw b.none_kept (inl refl);
    greeted_is = b.not_greeted;
    count_is = b.none_written;
    said_is = refl;
    requests_are = refl;
    last = record {
      front = [];
      behind = [];
      front_is = refl;
      before = [];
      word = Nothing;
      moment = record { ticks = pos 0 };
      later = [];
      history_is = refl;
      silent = tt;
      ends = (refl, refl);
      part = [];
      written_is = refl;
      said_is = refl;
    };
    asked = λ some. absurd (no-words [] refl some);
  }

  -- the application acted
  module _ (x : Serving) (limits : Limits) (channel : ℕ) (first : State × A) (read written : List ℕ) (ticks : List Event) (before after : State) (a b : A)
      (k : OwesNothing changes x limits channel first read written ticks (before, a))
      (did : changes a before b after) (alone : after ≡ with_nodes before after.nodes) where
    told-same : told_in (k.history ++ Became after.nodes before.made ∷ []) ≡ told_in k.history
    told-same = told_in-append k.history (Became after.nodes before.made ∷ []) ∙ append-nil (told_in k.history)

    state-there : (course_over channel (start first.0 []) k.history).state ≡ before
    state-there = rw (sym k.channel_is) k.stands.state_is

    pub acted : (j : OwesNothing changes x limits channel first read written ticks (after, b)) × (has_acted false j.history ≡ true)
    acted = (
      record {
        limits_is = k.limits_is;
        channel_is = k.channel_is;
        history = k.history ++ Became after.nodes before.made ∷ [];
        acted = acts-became changes channel (start first.0 []) first.1 a b k.history before after k.acted state-there did alone;
        acts_first = acting-append false k.history (Became after.nodes before.made ∷ []) k.acts_first tt;
        moments_are = k.moments_are
            ∙ rw (sym (moments_of-append k.history (Became after.nodes before.made ∷ []) ∙ append-nil (moments_of k.history)));
        stands = rw alone (history-became (channel_in x.server) read k.history first.0 before after.nodes before.made k.stands);
        kept_is = k.kept_is;
        greeted_is = k.greeted_is ∙ rw (sym told-same);
        count_is = k.count_is;
        said_is = output_over-append channel (start first.0 []) k.history (Became after.nodes before.made ∷ [])
            ∙ (append-nil (output_over channel (start first.0 []) k.history) ∙ k.said_is);
        requests_are = k.requests_are ∙ sym (requests_over-append channel (start first.0 []) k.history (Became after.nodes before.made ∷ [])
            ∙ append-nil (requests_over channel (start first.0 []) k.history));
        last = rw (← append-nil read) (last-on limits channel first.0 read [] [] written k.history (Became after.nodes before.made ∷ []) tt k.last);
        asked = λ some. absurd (no-words [] refl some);
      },
      acted-behind false k.history after.nodes before.made,
    )
