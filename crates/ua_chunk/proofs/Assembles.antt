-- The assembler, which keeps messages, against the lists of chunks.
use Rattle.std.proofs.Common.{◌≡◌, ℕ, ◌+◌, ◌≤◌, ◌<◌, ◌^◌, min, Bool, true, false, cond, not, ◌&&◌, eqb, ltb, Option}
use Rattle.std.proofs.Common.{Some, None, List, [], ◌∷◌, ◌++◌, refl, sym, ◌∙◌, ap, subst, arith, length, length-append}
use Rattle.std.proofs.lemmas.Bool.{le-ltb, ltb-false, ltb-true, lt-ltb}
use Rattle.std.specs.List.{concat}
use Rattle.ua_chunk.specs.declared.assembler.Assembler.{Assembler}
use Rattle.ua_chunk.specs.declared.chunk.Chunk.{Chunk}
use Rattle.ua_chunk.specs.declared.delivered.Delivered.{Delivered}
use Rattle.ua_chunk.specs.declared.pending.Pending.{Pending}
use Rattle.ua_chunk.specs.declared.flag.Flag.{Flag}
use Rattle.ua_chunk.specs.declared.flag.Flag.TheVariants.{F, C, A}
use Rattle.ua_chunk.specs.declared.fault.AssembleFault.{AssembleFault}
use Rattle.ua_chunk.specs.declared.fault.AssembleFault.TheVariants.{Sequence, Unreadable, TooManyOpen, MessageTooLarge, TooManyChunks}
use Rattle.ua_chunk.specs.Abort.{is_readable_abort}
use Rattle.ua_chunk.specs.Assembling.{Stands, refusal_kept, added, given_kept, given_kept_by, put_back, put_back_by}
use Rattle.ua_chunk.specs.Delivered.{given, given_by, delivered}
use Rattle.ua_chunk.specs.Flag.{is_more_flag, is_abort_flag}
use Rattle.ua_chunk.specs.Gathered.{is_more, unfinished, gathered, joined, filled, bodies}
use Rattle.ua_chunk.specs.Item.{Item}
use Rattle.ua_chunk.specs.Item.Item.{Whole}
use Rattle.ua_chunk.specs.Kept.{kept, kept_messages}
use Rattle.ua_chunk.specs.Open.{open_ids}
use Rattle.ua_chunk.specs.Pending.{without, is_under, message_under_id, nothing_of}
use Rattle.ua_chunk.specs.Refusal.{chunk_refusal, passes, most_open, IsFor, OpenWithin}
use Rattle.ua_chunk.specs.Sequence.{may_follow}
use Rattle.ua_chunk.specs.View.{HasParts}
use Rattle.ua_chunk.proofs.Bounds.{within_push}
use Rattle.ua_chunk.proofs.OneMore.{delivered_push}
use Rattle.ua_chunk.proofs.KeptMessages.{message_is, messages_push, joined_push, bodies_push, concat_bodies, count_is}

-- ---- what is handed out, and what is kept

count_more : (us : List Chunk) (c : Chunk) → min (min (length us) 4294967295 + 1) 4294967295 ≡ min (length (us ++ c ∷ [])) 4294967295
count_more us c = omega (arith, length-append us (c ∷ []))

added_is : (id : ℕ) (us : List Chunk) (c : Chunk) → added (kept id us) c ≡ kept id (us ++ c ∷ [])
added_is id us c =
    ap (λ n. record { request = id; chunks = n; message = bodies us ++ filled (c.body ∷ []) }) (count_more us c)
    ∙ ap (λ o. record { request = id; chunks = min (length (us ++ c ∷ [])) 4294967295; message = o }) (sym (bodies_push us c))

given_flag : (f : Flag) (cs : List Chunk) (c : Chunk) → given_kept_by f (kept c.request (unfinished c.request cs)) c ≡ given_by f cs c
given_flag F cs c =
    let us = unfinished c.request cs in
    ap (λ o. Whole c.request o ∷ []) (ap concat (sym (bodies_push us c)) ∙ concat_bodies (us ++ c ∷ []))
given_flag C cs c = refl
given_flag A cs c = refl

put_back_flag : (f : Flag) (cs : List Chunk) (c : Chunk) → put_back_by f (kept c.request (unfinished c.request cs)) c
    ≡ cond (is_more_flag f) (kept c.request (unfinished c.request cs ++ c ∷ []) ∷ []) []
put_back_flag F cs c = refl
put_back_flag C cs c = ap (λ m. m ∷ []) (added_is c.request (unfinished c.request cs) c)
put_back_flag A cs c = refl

pub given_is : (cs : List Chunk) (c : Chunk) (ms : List Pending) (ds : List Item) → ms ≡ kept_messages cs → ds ≡ given_kept (message_under_id c.request ms) c
    → given cs c ≡ ds
given_is cs c ms ds e f = sym (given_flag c.flag cs c) ∙ ap (λ m. given_kept m c) (sym (ap (message_under_id c.request) e ∙ message_is c.request cs)) ∙ sym f

-- the parts of what is handed out, where these are the parts that were kept
pub parts_are : (cs : List Chunk) (c : Chunk) (ms : List Pending) (d : Option Delivered) → ms ≡ kept_messages cs
    → HasParts d ((message_under_id c.request ms).message ++ filled (c.body ∷ [])) → HasParts d (bodies (gathered cs c))
parts_are cs c ms d e h =
    subst (HasParts d)
    (ap (λ (m : Pending). m.message ++ filled (c.body ∷ [])) (ap (message_under_id c.request) e ∙ message_is c.request cs)
    ∙ sym (bodies_push (unfinished c.request cs) c)) h

pub delivered_is : (cs : List Chunk) (c : Chunk) (ms : List Pending) (ds : List Item) → ms ≡ kept_messages cs
    → ds ≡ given_kept (message_under_id c.request ms) c
    → delivered (cs ++ c ∷ []) ≡ delivered cs ++ ds
delivered_is cs c ms ds e f = delivered_push cs c ∙ ap (λ t. delivered cs ++ t) (given_is cs c ms ds e f)

messages_are : (cs : List Chunk) (c : Chunk) (ms new : List Pending) → ms ≡ kept_messages cs
    → new ≡ without (is_under c.request) ms ++ put_back (message_under_id c.request ms) c → new ≡ kept_messages (cs ++ c ∷ [])
messages_are cs c ms new e f =
    f
    ∙ ap (λ t. without (is_under c.request) t ++ put_back (message_under_id c.request t) c) e
    ∙ ap (λ m. without (is_under c.request) (kept_messages cs) ++ put_back m c) (message_is c.request cs)
    ∙ ap (λ t. without (is_under c.request) (kept_messages cs) ++ t) (put_back_flag c.flag cs c)
    ∙ sym (messages_push cs c)

-- ---- why a chunk is refused

without_shorter : {X : Type 0} (p : X → Bool) (xs : List X) → length (without p xs) ≤ length xs
without_shorter p [] = omega arith
without_shorter p (x ∷ xs) = shorter (p x) x xs (without p xs) (without_shorter p xs)
  where
    shorter : {X : Type 0} (b : Bool) (x : X) (xs rest : List X) → length rest ≤ length xs → length (cond b xs (x ∷ rest)) ≤ length (x ∷ xs)
    shorter true x xs rest h = omega arith
    shorter false x xs rest h = omega arith

few_by : (b : Bool) (n k : ℕ) (m : Pending) → n ≤ 4 → k ≡ n + length (cond b (m ∷ []) []) → ltb 4 k ≡ (b && ltb 3 n)
few_by true n k m h e = grind arith
few_by false n k m h e = le-ltb 4 k (omega (arith, e))

few_open : (cs : List Chunk) (c : Chunk) (rest : List Pending) → length (open_ids cs) ≤ 4 → rest ≡ without (is_under c.request) (kept_messages cs)
    → ltb 4 (length (open_ids (cs ++ c ∷ []))) ≡ (is_more c && ltb 3 (length rest))
few_open cs c rest h e =
    let last = cond (is_more c) (kept c.request (unfinished c.request cs ++ c ∷ []) ∷ []) [] in
    let all : length (open_ids (cs ++ c ∷ [])) ≡ length rest + length last =
    sym (count_is (cs ++ c ∷ [])) ∙ ap length (messages_push cs c) ∙ length-append (without (is_under c.request) (kept_messages cs)) last
    ∙ ap (λ t. length t + length last) (sym e) in
    let small : length rest ≤ length (kept_messages cs) = subst (λ (t : List Pending). length t ≤ length (kept_messages cs)) (sym e)
    (without_shorter (is_under c.request) (kept_messages cs)) in
    few_by (is_more c) (length rest) (length (open_ids (cs ++ c ∷ []))) (kept c.request (unfinished c.request cs ++ c ∷ [])) (omega (arith, small, count_is cs))
    all

large : (limit : ℕ) (us : List Chunk) (c : Chunk) → passes limit (length (joined (us ++ c ∷ []))) ≡ passes limit (length (concat (bodies us)) + length c.body)
large limit us c =
    ap (passes limit) (ap length (joined_push us c) ∙ length-append (joined us) c.body)
    ∙ ap (λ (t : List ℕ). passes limit (length t + length c.body)) (sym (concat_bodies us))

many_by : (limit n m : ℕ) → limit < 2 ^ 32 → m ≡ n + 1 → ltb limit m ≡ ltb limit (min n 4294967295 + 1)
many_by limit n m h e = many_cases (ltb limit m) refl
  where
    many_cases : (b : Bool) → ltb limit m ≡ b → ltb limit m ≡ ltb limit (min n 4294967295 + 1)
    many_cases true t = t ∙ sym (lt-ltb limit (min n 4294967295 + 1) (omega (arith, ltb-true limit m t)))
    many_cases false t = t ∙ sym (le-ltb limit (min n 4294967295 + 1) (omega (arith, ltb-false limit m t)))

many : (limit : ℕ) (us : List Chunk) (c : Chunk) → limit < 2 ^ 32 → passes limit (length (us ++ c ∷ [])) ≡ passes limit (min (length us) 4294967295 + 1)
many limit us c h = ap (λ b. not (eqb limit 0) && b) (many_by limit (length us) (length (us ++ c ∷ [])) h (length-append us (c ∷ [])))

-- the chain of reasons, by its tests
abbrev pub chain : Bool → Bool → Bool → Bool → Bool → Option AssembleFault
chain follows unreadable crowded octets chunks =
    cond (not follows) (Some Sequence)
    (cond unreadable (Some Unreadable) (cond crowded (Some TooManyOpen) (cond octets (Some MessageTooLarge) (cond chunks (Some TooManyChunks) None))))

pub refusal_is : (a b : Assembler) (cs : List Chunk) (c : Chunk) → Stands a cs → a.chunks < 2 ^ 32 → b.last ≡ a.last → b.octets ≡ a.octets → b.chunks ≡ a.chunks
    → b.pending ≡ without (is_under c.request) a.pending
    → chunk_refusal a.octets a.chunks a.last cs c ≡ refusal_kept b (message_under_id c.request a.pending) c
refusal_is a b cs c s h last octets chunks pending =
    let m : message_under_id c.request a.pending ≡ kept c.request (unfinished c.request cs) = ap (message_under_id c.request) s.unfinished
    ∙ message_is c.request cs in
    let p : b.pending ≡ without (is_under c.request) (kept_messages cs) = pending ∙ ap (without (is_under c.request)) s.unfinished in
    ap (λ t. chain (may_follow a.last c.sequence) (is_abort_flag c.flag && not (is_readable_abort c.body)) t
    (not (is_abort_flag c.flag) && passes a.octets (length (joined (gathered cs c))))
    (not (is_abort_flag c.flag) && passes a.chunks (length (gathered cs c)))) (few_open cs c b.pending s.few p)
    ∙ ap (λ t. chain (may_follow a.last c.sequence) (is_abort_flag c.flag && not (is_readable_abort c.body)) (is_more c && ltb 3 (length b.pending))
    (not (is_abort_flag c.flag) && t) (not (is_abort_flag c.flag) && passes a.chunks (length (gathered cs c)))) (large a.octets (unfinished c.request cs) c)
    ∙ ap (λ t. chain (may_follow a.last c.sequence) (is_abort_flag c.flag && not (is_readable_abort c.body)) (is_more c && ltb 3 (length b.pending))
    (not (is_abort_flag c.flag) && passes a.octets (length (concat (bodies (unfinished c.request cs))) + length c.body)) (not (is_abort_flag c.flag) && t))
    (many a.chunks (unfinished c.request cs) c h)
    ∙ ap (λ (t : Pending). chain (may_follow a.last c.sequence) (is_abort_flag c.flag && not (is_readable_abort c.body)) (is_more c && ltb 3 (length b.pending))
    (not (is_abort_flag c.flag) && passes a.octets (length (concat t.message) + length c.body))
    (not (is_abort_flag c.flag) && passes a.chunks (t.chunks + 1))) (sym m)
    ∙ ap (λ t. chain (may_follow t c.sequence) (is_abort_flag c.flag && not (is_readable_abort c.body)) (is_more c && ltb 3 (length b.pending))
    (not (is_abort_flag c.flag) && passes a.octets (length (concat (message_under_id c.request a.pending).message) + length c.body))
    (not (is_abort_flag c.flag) && passes a.chunks ((message_under_id c.request a.pending).chunks + 1))) (sym last)
    ∙ ap (λ t. chain (may_follow b.last c.sequence) (is_abort_flag c.flag && not (is_readable_abort c.body)) (is_more c && ltb 3 (length b.pending))
    (not (is_abort_flag c.flag) && passes t (length (concat (message_under_id c.request a.pending).message) + length c.body))
    (not (is_abort_flag c.flag) && passes a.chunks ((message_under_id c.request a.pending).chunks + 1))) (sym octets)
    ∙ ap (λ t. chain (may_follow b.last c.sequence) (is_abort_flag c.flag && not (is_readable_abort c.body)) (is_more c && ltb 3 (length b.pending))
    (not (is_abort_flag c.flag) && passes b.octets (length (concat (message_under_id c.request a.pending).message) + length c.body))
    (not (is_abort_flag c.flag) && passes t ((message_under_id c.request a.pending).chunks + 1))) (sym chunks)

some_step : (t : Bool) (f : AssembleFault) (o : Option AssembleFault) (g : AssembleFault) → cond t (Some f) o ≡ Some g → (f ≡ g → IsFor (Some f) g)
    → (o ≡ Some g → IsFor o g) → IsFor (cond t (Some f) o) g
some_step true f o g e h k = h cc
some_step false f o g e h k = k e

for_self : (f g : AssembleFault) (P : AssembleFault → Type 0) → f ≡ g → P f → P g
for_self f g P e p = subst P e p

chain_for : (follows unreadable crowded octets chunks : Bool) (g : AssembleFault) → chain follows unreadable crowded octets chunks ≡ Some g
    → IsFor (chain follows unreadable crowded octets chunks) g
chain_for follows unreadable crowded octets chunks g e =
    some_step (not follows) Sequence
    (cond unreadable (Some Unreadable) (cond crowded (Some TooManyOpen) (cond octets (Some MessageTooLarge) (cond chunks (Some TooManyChunks) None)))) g e
    (λ s. for_self Sequence g (IsFor (Some Sequence)) s refl)
    (λ e1. some_step unreadable Unreadable (cond crowded (Some TooManyOpen) (cond octets (Some MessageTooLarge) (cond chunks (Some TooManyChunks) None))) g e1
    (λ s. for_self Unreadable g (IsFor (Some Unreadable)) s refl)
    (λ e2. some_step crowded TooManyOpen (cond octets (Some MessageTooLarge) (cond chunks (Some TooManyChunks) None)) g e2
    (λ s. for_self TooManyOpen g (IsFor (Some TooManyOpen)) s refl)
    (λ e3. some_step octets MessageTooLarge (cond chunks (Some TooManyChunks) None) g e3 (λ s. for_self MessageTooLarge g (IsFor (Some MessageTooLarge)) s refl)
    (λ e4. some_step chunks TooManyChunks None g e4 (λ s. for_self TooManyChunks g (IsFor (Some TooManyChunks)) s refl)
    (λ e5. absurd cc)))))

-- a fault that is the first reason is for it
pub fault_is_for : (octets chunks : ℕ) (last : Option ℕ) (cs : List Chunk) (c : Chunk) (g : AssembleFault) → chunk_refusal octets chunks last cs c ≡ Some g
    → IsFor (chunk_refusal octets chunks last cs c) g
fault_is_for octets chunks last cs c g e =
    chain_for (may_follow last c.sequence) (is_abort_flag c.flag && not (is_readable_abort c.body)) (ltb most_open (length (open_ids (cs ++ c ∷ []))))
    (not (is_abort_flag c.flag) && passes octets (length (joined (gathered cs c)))) (not (is_abort_flag c.flag) && passes chunks (length (gathered cs c))) g e

pub few_after : (follows unreadable crowded octets chunks : Bool) → chain follows unreadable crowded octets chunks ≡ None → crowded ≡ false
few_after false unreadable crowded octets chunks e = absurd cc
few_after true true crowded octets chunks e = absurd cc
few_after true false true octets chunks e = absurd cc
few_after true false false octets chunks e = refl

pub large_after : (follows unreadable crowded octets chunks : Bool) → chain follows unreadable crowded octets chunks ≡ None → octets ≡ false
large_after false unreadable crowded octets chunks e = absurd cc
large_after true true crowded octets chunks e = absurd cc
large_after true false true octets chunks e = absurd cc
large_after true false false true chunks e = absurd cc
large_after true false false false chunks e = refl

pub unreadable_after : (follows unreadable crowded octets chunks : Bool) → chain follows unreadable crowded octets chunks ≡ None → unreadable ≡ false
unreadable_after false unreadable crowded octets chunks e = absurd cc
unreadable_after true true crowded octets chunks e = absurd cc
unreadable_after true false crowded octets chunks e = refl

-- an assembler that took a chunk stands after it
pub stays : (a b : Assembler) (cs : List Chunk) (c : Chunk) → Stands a cs → chunk_refusal a.octets a.chunks a.last cs c ≡ None → b.closed ≡ false
    → b.octets ≡ a.octets → b.pending ≡ without (is_under c.request) a.pending ++ put_back (message_under_id c.request a.pending) c → Stands b (cs ++ c ∷ [])
stays a b cs c s none closed octets pending = record {
  goes_on = closed;
  unfinished = messages_are cs c a.pending b.pending s.unfinished pending;
  few = ltb-false most_open (length (open_ids (cs ++ c ∷ [])))
      (few_after (may_follow a.last c.sequence) (is_abort_flag c.flag && not (is_readable_abort c.body)) (ltb most_open (length (open_ids (cs ++ c ∷ []))))
      (not (is_abort_flag c.flag) && passes a.octets (length (joined (gathered cs c)))) (not (is_abort_flag c.flag) && passes a.chunks (length (gathered cs c)))
      none);
  within = subst (λ n. OpenWithin n (cs ++ c ∷ [])) (sym octets) (within_push a.octets cs c s.within
      (large_after (may_follow a.last c.sequence) (is_abort_flag c.flag && not (is_readable_abort c.body)) (ltb most_open (length (open_ids (cs ++ c ∷ []))))
      (not (is_abort_flag c.flag) && passes a.octets (length (joined (gathered cs c)))) (not (is_abort_flag c.flag) && passes a.chunks (length (gathered cs c)))
      none));
}

-- ---- a whole message where none is unfinished

pub alone_given : (ms : List Pending) (c : Chunk) (o : List (List ℕ)) → ms ≡ [] → c.flag ≡ F → o ≡ filled (c.body ∷ [])
    → Whole c.request (concat o) ∷ [] ≡ given_kept (message_under_id c.request ms) c
alone_given ms c o none flag parts =
    ap (λ (b : List (List ℕ)). Whole c.request (concat b) ∷ []) parts
    ∙ (ap (λ (f : Flag). given_kept_by f (message_under_id c.request []) c) (sym flag)
    ∙ ap (λ (t : List Pending). given_kept (message_under_id c.request t) c) (sym none))

pub alone_parts : (ms : List Pending) (c : Chunk) (o : List (List ℕ)) → ms ≡ [] → o ≡ filled (c.body ∷ [])
    → o ≡ (message_under_id c.request ms).message ++ filled (c.body ∷ [])
alone_parts ms c o none parts = parts ∙ ap (λ (t : List Pending). (message_under_id c.request t).message ++ filled (c.body ∷ [])) (sym none)

pub alone_left : (ms : List Pending) (c : Chunk) → ms ≡ [] → c.flag ≡ F
    → ms ≡ without (is_under c.request) ms ++ put_back (message_under_id c.request ms) c
alone_left ms c none flag =
    none
    ∙ (ap (λ (f : Flag). put_back_by f (message_under_id c.request []) c) (sym flag)
    ∙ ap (λ (t : List Pending). without (is_under c.request) t ++ put_back (message_under_id c.request t) c) (sym none))

pub alone_unrefused : (a : Assembler) (cs : List Chunk) (c : Chunk) → Stands a cs → a.chunks < 2 ^ 32 → a.pending ≡ []
    → refusal_kept a (nothing_of c.request) c ≡ None → chunk_refusal a.octets a.chunks a.last cs c ≡ None
alone_unrefused a cs c s h none refused =
    refusal_is a a cs c s h refl refl refl (none ∙ ap (without (is_under c.request)) (sym none))
    ∙ (ap (λ (t : List Pending). refusal_kept a (message_under_id c.request t) c) none ∙ refused)
