-- What a server says of octets, by a reading of them; and that it says nothing else of more octets first.
use Rattle.std.proofs.Common.{◌≡◌, ℕ, zero, suc, ◌+◌, ◌<◌, ◌≤◌, List, [], ◌∷◌, ◌++◌, length, length-append, refl, sym, ◌∙◌, ap, arith, add-zero, append-nil}
use Rattle.ua_builtin.specs.declared.date_time.DateTime.{DateTime}
use Rattle.ua_frame.specs.declared.frame.Frame.{Frame}
use Rattle.ua_frame.specs.After.{each_from}
use Rattle.ua_frame.specs.Run.{Rules, End, Going, Stopped, Over, Run, events}
use Rattle.ua_frame.proofs.Ends.{ends_stay}
use Rattle.ua_frame.proofs.Readings.{reading}
use Rattle.ua_frame.proofs.Unique.{unique}
use Rattle.ua_channel_laws.proofs.ReadOn.{events_on}
use Rattle.ua_channel_laws.specs.ServerReads.{ServerCloses}
use Rattle.ua_channel.specs.ServerRules.{server_rules}
use Rattle.ua_channel.specs.ServerTold.{Told, Closed}
use Rattle.ua_server.specs.Said.{Course, last_words, state_after, course_after as course_by, output_of, said_of, used_in, with_more}
use Rattle.ua_server.proofs.SaidInParts.{left-append, left-more, said-append, said-more, used_in-append}
use Rattle.ua_loopback.specs.Beginning.{Beginning}
use Rattle.ua_loopback.specs.Says.{end_by, services_after, reading_at_server, server_output, answer_times, events_at_server, times_from}
use Rattle.ua_channel_laws.proofs.Further.{behind, run_further}

-- ---- by a reading

abbrev pub rules_by : Beginning → Rules Told ℕ
rules_by b = server_rules b.limits b.channel

module _ (b : Beginning) (octets : List ℕ) (fs : List Frame) (rest : List ℕ) (end : End ℕ) (run : Run (rules_by b) octets fs rest end) where
  told_is : events_at_server b octets ≡ events (rules_by b) fs
  told_is =
      ap (events (rules_by b)) (unique (rules_by b) octets (reading_at_server b octets).frames fs (reading_at_server b octets).rest rest
      (reading_at_server b octets).end end (reading_at_server b octets).run run).frames

  pub end_is : end_by b octets ≡ end
  end_is = (unique (rules_by b) octets (reading_at_server b octets).frames fs (reading_at_server b octets).rest rest (reading_at_server b octets).end end
      (reading_at_server b octets).run run).ends

  pub said_by_run : server_output b octets ≡ output_of b.channel b.first (events (rules_by b) fs) end (answer_times (events (rules_by b) fs) b.moments)
  unfolding server_output
  said_by_run =
      ap (λ (t : List Told). output_of b.channel b.first t (end_by b octets) (answer_times t b.moments)) told_is
      ∙ ap (λ (e : End ℕ). output_of b.channel b.first (events (rules_by b) fs) e (answer_times (events (rules_by b) fs) b.moments)) end_is

  pub left_by_run : services_after b octets
      ≡ (state_after b.channel b.first (events (rules_by b) fs) (answer_times (events (rules_by b) fs) b.moments)).state
  unfolding services_after
  left_by_run = ap (λ (t : List Told). (state_after b.channel b.first t (answer_times t b.moments)).state) told_is

-- ---- a front of octets

-- a server that waits behind octets waits behind a front of them
pub front_waits : (b : Beginning) (octets more : List ℕ) → end_by b (octets ++ more) ≡ Going → end_by b octets ≡ Going
front_waits b octets more goes = by (end_by b octets) refl
  where
    stays : (end_by b octets ≡ Going → ⊥) → end_by b octets ≡ Going
    stays over =
        sym (end_is b (octets ++ more) (reading_at_server b octets).frames ((reading_at_server b octets).rest ++ more) (end_by b octets)
        (ends_stay (rules_by b) octets more (reading_at_server b octets).frames (reading_at_server b octets).rest (end_by b octets) over
        (reading_at_server b octets).run))
        ∙ goes

    by : (end : End ℕ) → end_by b octets ≡ end → end_by b octets ≡ Going
    by Going is = is
    by (Stopped why) is = stays (λ going. let no : ◌≡◌ {A = End ℕ} (Stopped why) Going = sym is ∙ going in absurd cc)
    by Over is = stays (λ going. let no : ◌≡◌ {A = End ℕ} Over Going = sym is ∙ going in absurd cc)

-- and behind a front of octets that close its channel, where some of them are missing
pub closing_waits : (b : Beginning) (octets more : List ℕ) (told : List Told) → ServerCloses b.limits b.channel (octets ++ more) told → 0 < length more
    → end_by b octets ≡ Going
closing_waits b octets more told c some = by (end_by b octets) refl
  where
    never : (end_by b octets ≡ Going → ⊥) → ⊥
    never over =
        let run = ends_stay (rules_by b) octets more (reading_at_server b octets).frames (reading_at_server b octets).rest (end_by b octets) over
        (reading_at_server b octets).run in
        let same = unique (rules_by b) (octets ++ more) (reading_at_server b octets).frames c.frames ((reading_at_server b octets).rest ++ more) []
        (end_by b octets) Over run c.run in
        omega (arith, some, ap length same.rests, length-append (reading_at_server b octets).rest more)

    by : (end : End ℕ) → end_by b octets ≡ end → end_by b octets ≡ Going
    by Going is = is
    by (Stopped why) is = absurd (never (λ going. let no : ◌≡◌ {A = End ℕ} (Stopped why) Going = sym is ∙ going in absurd cc))
    by Over is = absurd (never (λ going. let no : ◌≡◌ {A = End ℕ} Over Going = sym is ∙ going in absurd cc))

-- ---- more octets

-- what is said of octets is a beginning of this
pub record SaidFirst (b : Beginning) (octets all : List ℕ) : Type 0 where
  pub further : List ℕ
  pub parts : all ≡ server_output b octets ++ further

pub times-add : (moments : ℕ → DateTime) (n a c : ℕ) → times_from moments n (a + c) ≡ times_from moments n a ++ times_from moments (n + a) c
times-add moments n zero c = ap (λ (k : ℕ). times_from moments n k) (none c) ∙ ap (λ (k : ℕ). times_from moments k c) (sym (add-zero n))
  where
    none : (c : ℕ) → zero + c ≡ c
    none c = omega arith
times-add moments n (suc a) c =
    ap (λ (k : ℕ). times_from moments n k) (one a c)
    ∙ ap (λ (ms : List DateTime). moments n ∷ ms) (times-add moments (n + 1) a c
    ∙ ap (λ (k : ℕ). times_from moments (n + 1) a ++ times_from moments k c) (on n a))
  where
    one : (a c : ℕ) → suc a + c ≡ suc (a + c)
    one a c = omega arith

    on : (n a : ℕ) → (n + 1) + a ≡ n + suc a
    on n a = omega arith

pub length-times : (moments : ℕ → DateTime) (n k : ℕ) → length (times_from moments n k) ≡ k
length-times moments n zero = refl
length-times moments n (suc k) = ap suc (length-times moments (n + 1) k)

-- the times of the answers to what is told more
abbrev pub later_times : List Told → List Told → (ℕ → DateTime) → List DateTime
later_times told more moments = times_from moments (used_in told) (used_in more)

pub spent-append : (a c : List Told) (moments : ℕ → DateTime) → answer_times (a ++ c) moments ≡ answer_times a moments ++ later_times a c moments
spent-append a c moments = ap (λ (n : ℕ). times_from moments 0 n) (used_in-append a c)
    ∙ (times-add moments 0 (used_in a) (used_in c) ∙ ap (λ (n : ℕ). answer_times a moments ++ times_from moments n (used_in c)) (no_shift (used_in a)))
  where
    no_shift : (n : ℕ) → 0 + n ≡ n
    no_shift n = omega arith

pub spent-enough : (a : List Told) (moments : ℕ → DateTime) → used_in a ≤ length (answer_times a moments)
spent-enough a moments = let len = length-times moments 0 (used_in a) in omega (arith, len)

-- how far a server is behind more that is told, where each answer has its moment
pub left_on : (b : Beginning) (told more : List Told) → state_after b.channel b.first (told ++ more) (answer_times (told ++ more) b.moments)
    ≡ course_by b.channel (with_more (state_after b.channel b.first told (answer_times told b.moments)) (later_times told more b.moments)) more
left_on b told more =
    ap (λ (ms : List DateTime). state_after b.channel b.first (told ++ more) ms) (spent-append told more b.moments)
    ∙ (left-append b.channel b.first told more (answer_times told b.moments ++ later_times told more b.moments)
    ∙ ap (λ (k : Course). course_by b.channel k more) (left-more b.channel b.first told (answer_times told b.moments) (later_times told more b.moments)
    (spent-enough told b.moments)))

-- and what it says of that
pub said_on : (b : Beginning) (told more : List Told) → output_of b.channel b.first (told ++ more) Going (answer_times (told ++ more) b.moments)
    ≡ output_of b.channel b.first told Going (answer_times told b.moments)
    ++ said_of b.channel (with_more (state_after b.channel b.first told (answer_times told b.moments)) (later_times told more b.moments)) more
said_on b told more =
    let ms : List DateTime = answer_times told b.moments ++ later_times told more b.moments in
    ap (λ (m : List DateTime). output_of b.channel b.first (told ++ more) Going m) (spent-append told more b.moments)
    ∙ (said-append b.channel b.first told more Going ms
    ∙ (ap (λ (o : List ℕ). o ++ (said_of b.channel (state_after b.channel b.first told ms) more ++ []))
    (said-more b.channel b.first told Going (answer_times told b.moments) (later_times told more b.moments) (spent-enough told b.moments))
    ∙ (ap (λ (o : List ℕ). output_of b.channel b.first told Going (answer_times told b.moments) ++ o)
    (append-nil (said_of b.channel (state_after b.channel b.first told ms) more))
    ∙ ap (λ (k : Course). output_of b.channel b.first told Going (answer_times told b.moments) ++ said_of b.channel k more)
    (left-more b.channel b.first told (answer_times told b.moments) (later_times told more b.moments) (spent-enough told b.moments)))))

-- nothing more is said of a CLO
pub said_over : (b : Beginning) (told : List Told) → output_of b.channel b.first (told ++ Closed ∷ []) Over (answer_times (told ++ Closed ∷ []) b.moments)
    ≡ output_of b.channel b.first told Going (answer_times told b.moments)
said_over b told =
    let ms : List DateTime = answer_times told b.moments ++ later_times told (Closed ∷ []) b.moments in
    ap (λ (m : List DateTime). output_of b.channel b.first (told ++ Closed ∷ []) Over m) (spent-append told (Closed ∷ []) b.moments)
    ∙ (said-append b.channel b.first told (Closed ∷ []) Over ms
    ∙ (append-nil (output_of b.channel b.first told Going ms)
    ∙ said-more b.channel b.first told Going (answer_times told b.moments) (later_times told (Closed ∷ []) b.moments) (spent-enough told b.moments)))

-- what is said of more that is told, in one piece
said_first : (b : Beginning) (a c : List Told) (end : End ℕ) → (further : List ℕ) ×
    (output_of b.channel b.first (a ++ c) end (answer_times (a ++ c) b.moments) ≡ output_of b.channel b.first a Going (answer_times a b.moments)
    ++ further)
said_first b a c end =
    let moments = answer_times a b.moments ++ later_times a c b.moments in (
      said_of b.channel (state_after b.channel b.first a moments) c ++ last_words end,
      ap (λ (ms : List DateTime). output_of b.channel b.first (a ++ c) end ms) (spent-append a c b.moments)
          ∙ (said-append b.channel b.first a c end moments
          ∙ ap (λ (o : List ℕ). o ++ (said_of b.channel (state_after b.channel b.first a moments) c ++ last_words end))
          (said-more b.channel b.first a Going (answer_times a b.moments) (later_times a c b.moments) (spent-enough a b.moments))),
    )

stays_said : (b : Beginning) (octets more : List ℕ) (fs : List Frame) (rest : List ℕ) (end : End ℕ) → (end ≡ Going → ⊥) → Run (rules_by b) octets fs rest end
    → SaidFirst b octets (server_output b (octets ++ more))
stays_said b octets more fs rest end over r = record {
  further = [];
  parts =
      said_by_run b (octets ++ more) fs (rest ++ more) end (ends_stay (rules_by b) octets more fs rest end over r)
      ∙ (sym (said_by_run b octets fs rest end r) ∙ sym (append-nil (server_output b octets)));
}

goes_said : (b : Beginning) (octets more : List ℕ) (fs : List Frame) (rest : List ℕ) → Run (rules_by b) octets fs rest Going
    → SaidFirst b octets (server_output b (octets ++ more))
goes_said b octets more fs rest r =
    let R = rules_by b in
    let s = reading (behind R fs) (rest ++ more) in
    let run = run_further R octets more fs s.frames rest s.rest s.end r s.run in
    let later = each_from R.tells fs s.frames in
    let first = said_first b (events R fs) later s.end in
    record {
      further = first.0;
      parts =
          said_by_run b (octets ++ more) (fs ++ s.frames) s.rest s.end run
          ∙ (ap (λ (t : List Told). output_of b.channel b.first t s.end (answer_times t b.moments)) (events_on R fs s.frames)
          ∙ (first.1 ∙ ap (λ (o : List ℕ). o ++ first.0) (sym (said_by_run b octets fs rest Going r))));
    }

by_end : (b : Beginning) (octets more : List ℕ) (fs : List Frame) (rest : List ℕ) (end : End ℕ) → Run (rules_by b) octets fs rest end
    → SaidFirst b octets (server_output b (octets ++ more))
by_end b octets more fs rest Going r = goes_said b octets more fs rest r
by_end b octets more fs rest (Stopped why) r = stays_said b octets more fs rest (Stopped why) (λ e. cc) r
by_end b octets more fs rest Over r = stays_said b octets more fs rest Over (λ e. cc) r

-- what is said of octets is said first of more of them
pub said_further : (b : Beginning) (octets more : List ℕ) → SaidFirst b octets (server_output b (octets ++ more))
said_further b octets more = by_end b octets more (reading_at_server b octets).frames (reading_at_server b octets).rest (reading_at_server b octets).end
    (reading_at_server b octets).run
