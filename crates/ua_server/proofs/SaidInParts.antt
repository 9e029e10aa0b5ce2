-- What is said of what is told in two parts, and with moments that come later.
use Rattle.std.specs.Prelude.{◌≡◌, ℕ, ◌+◌, ◌≤◌, List, [], ◌∷◌, ◌++◌, length, Option}
use Rattle.std.proofs.Common.{refl, sym, ◌∙◌, ap, append_assoc, append-nil, arith}
use Rattle.ua_builtin.specs.declared.date_time.DateTime.{DateTime}
use Rattle.ua_channel.specs.Agreement.{Agreement}
use Rattle.ua_channel.specs.ServerTold.{Told, Agreed, Opened, Asked, GaveUp, Closed}
use Rattle.ua_frame.specs.Run.{End, Going}
use Rattle.ua_server.specs.Said.{Course, start, with_more, say, said_of, course_after, last_words, output_of, state_after, times_used_by, used_in}
use Rattle.ua_server.specs.State.{State}

-- ---- in two parts

pub left_by-append : (channel : ℕ) (c : Course) (a b : List Told) → course_after channel c (a ++ b) ≡ course_after channel (course_after channel c a) b
left_by-append channel c [] b = refl
left_by-append channel c (t ∷ a) b = left_by-append channel (say channel c t).1 a b

pub said_of-append : (channel : ℕ) (c : Course) (a b : List Told) → said_of channel c (a ++ b) ≡ said_of channel c a
    ++ said_of channel (course_after channel c a) b
said_of-append channel c [] b = refl
said_of-append channel c (t ∷ a) b =
    rw (said_of-append channel (say channel c t).1 a b)
    (sym (append_assoc (say channel c t).0 (said_of channel (say channel c t).1 a) (said_of channel (course_after channel (say channel c t).1 a) b)))

pub used_in-append : (a b : List Told) → used_in (a ++ b) ≡ used_in a + used_in b
used_in-append [] b = let none : 0 + used_in b ≡ used_in b = omega arith in sym none
used_in-append (t ∷ a) b = let more = used_in-append a b in omega (arith, more)

-- ---- with moments that come later

abbrev pub course : State → ℕ → List DateTime → Option Agreement → Course
course s n moments a = record { state = s; number = n; moments = moments; agreement = a }

pub say-more : (channel : ℕ) (s : State) (n : ℕ) (ms : List DateTime) (a : Option Agreement) (more : List DateTime) (t : Told) → times_used_by t ≤ length ms
    → say channel (with_more (course s n ms a) more) t ≡ ((say channel (course s n ms a) t).0, with_more (say channel (course s n ms a) t).1 more)
say-more channel s n ms a more (Agreed g) h = refl
say-more channel s n [] a more (Opened id handle token lifetime) h = absurd (omega (arith, h))
say-more channel s n (m ∷ ms) a more (Opened id handle token lifetime) h = refl
say-more channel s n [] a more (Asked id token octets) h = absurd (omega (arith, h))
say-more channel s n (m ∷ ms) a more (Asked id token octets) h = refl
say-more channel s n ms a more (GaveUp id) h = refl
say-more channel s n ms a more Closed h = refl

say-uses : (channel : ℕ) (s : State) (n : ℕ) (ms : List DateTime) (a : Option Agreement) (t : Told) → times_used_by t ≤ length ms
    → length (say channel (course s n ms a) t).1.moments + times_used_by t ≡ length ms
say-uses channel s n ms a (Agreed g) h = omega arith
say-uses channel s n [] a (Opened id handle token lifetime) h = absurd (omega (arith, h))
say-uses channel s n (m ∷ ms) a (Opened id handle token lifetime) h = omega arith
say-uses channel s n [] a (Asked id token octets) h = absurd (omega (arith, h))
say-uses channel s n (m ∷ ms) a (Asked id token octets) h = omega arith
say-uses channel s n ms a (GaveUp id) h = omega arith
say-uses channel s n ms a Closed h = omega arith

pub uses-first : (t : Told) (told : List Told) (n : ℕ) → used_in (t ∷ told) ≤ n → times_used_by t ≤ n
uses-first t told n h = omega (arith, h)

pub enough-left : (channel : ℕ) (c : Course) (t : Told) (told : List Told) → used_in (t ∷ told) ≤ length c.moments
    → used_in told ≤ length (say channel c t).1.moments
enough-left channel c t told h =
    let spent = say-uses channel c.state c.number c.moments c.agreement t (uses-first t told (length c.moments) h) in
    omega (arith, h, spent)

pub left_by-more : (channel : ℕ) (c : Course) (more : List DateTime) (told : List Told) → used_in told ≤ length c.moments
    → course_after channel (with_more c more) told ≡ with_more (course_after channel c told) more
left_by-more channel c more [] h = refl
left_by-more channel c more (t ∷ told) h =
    let one = say-more channel c.state c.number c.moments c.agreement more t (uses-first t told (length c.moments) h) in
    rw one (left_by-more channel (say channel c t).1 more told (enough-left channel c t told h))

pub said_of-more : (channel : ℕ) (c : Course) (more : List DateTime) (told : List Told) → used_in told ≤ length c.moments
    → said_of channel (with_more c more) told ≡ said_of channel c told
said_of-more channel c more [] h = refl
said_of-more channel c more (t ∷ told) h =
    let one = say-more channel c.state c.number c.moments c.agreement more t (uses-first t told (length c.moments) h) in
    ap (λ (p : List ℕ × Course). p.0 ++ said_of channel p.1 told) one
    ∙ ap (λ (o : List ℕ). (say channel c t).0 ++ o) (said_of-more channel (say channel c t).1 more told (enough-left channel c t told h))

pub left_by-uses : (channel : ℕ) (c : Course) (told : List Told) → used_in told ≤ length c.moments
    → length (course_after channel c told).moments + used_in told ≡ length c.moments
left_by-uses channel c [] h = omega arith
left_by-uses channel c (t ∷ told) h =
    let spent = say-uses channel c.state c.number c.moments c.agreement t (uses-first t told (length c.moments) h) in
    let rest = left_by-uses channel (say channel c t).1 told (enough-left channel c t told h) in
    omega (arith, spent, rest)

-- ---- the same of a whole connection

regrouped : (a b w : List ℕ) → (a ++ b) ++ w ≡ (a ++ []) ++ (b ++ w)
regrouped a b w = append_assoc a b w ∙ ap (λ (x : List ℕ). x ++ (b ++ w)) (sym (append-nil a))

pub left-append : (channel : ℕ) (s : State) (a b : List Told) (moments : List DateTime)
    → state_after channel s (a ++ b) moments ≡ course_after channel (state_after channel s a moments) b
unfolding state_after
left-append channel s a b moments = left_by-append channel (start s moments) a b

pub said-append : (channel : ℕ) (s : State) (a b : List Told) (ending : End ℕ) (moments : List DateTime)
    → output_of channel s (a ++ b) ending moments ≡ output_of channel s a Going moments
    ++ (said_of channel (state_after channel s a moments) b ++ last_words ending)
unfolding output_of state_after
said-append channel s a b ending moments =
    rw (said_of-append channel (start s moments) a b)
    (regrouped (said_of channel (start s moments) a) (said_of channel (course_after channel (start s moments) a) b) (last_words ending))

pub left-more : (channel : ℕ) (s : State) (told : List Told) (moments more : List DateTime) → used_in told ≤ length moments
    → state_after channel s told (moments ++ more) ≡ with_more (state_after channel s told moments) more
unfolding state_after
left-more channel s told moments more h = left_by-more channel (start s moments) more told h

pub said-more : (channel : ℕ) (s : State) (told : List Told) (ending : End ℕ) (moments more : List DateTime) → used_in told ≤ length moments
    → output_of channel s told ending (moments ++ more) ≡ output_of channel s told ending moments
unfolding output_of
said-more channel s told ending moments more h = rw (said_of-more channel (start s moments) more told h)
