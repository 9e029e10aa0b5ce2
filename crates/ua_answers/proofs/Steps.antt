-- What the fields of a line ask for, and that they ask for nothing else.
use Rattle.std.proofs.Common.{◌≡◌, ℕ, ◌≤◌, ◌<◌, Bool, true, false, cond, List, [], ◌∷◌, length, Option}
use Rattle.std.proofs.Common.{Some, None, MatchOption, codes, refl, sym, ◌∙◌, ap, subst, arith}
use Rattle.std.specs.Option.{unwrap_or}
use Rattle.std.proofs.lemmas.Bool.Decides.{nat_tests}
use denote.Ref.{Bor}
use Rattle.std.specs.Prelude.{IsErrOf, Err}
use Rattle.ua_builtin.specs.NodeText.{NamesNode}
use Rattle.ua_builtin.specs.declared.fault.TextFault.{TextFault}
use Rattle.ua_builtin.specs.declared.fault.TextFault.TheVariants.{NotNodeId, OutOfMemory as NoTextMemory}
use Rattle.ua_builtin.specs.declared.node_id.NodeId.{NodeId}
use Rattle.ua_nodes.specs.NodeFile.{has_short_fields, NamesId}
use Rattle.ua_nodes.proofs.Pieces.{pieces, at_least_one}
use Rattle.ua_variant.specs.Data.{VariantData}
use Rattle.ua_variant.specs.View.{variant_of}
use Rattle.ua_answers.specs.Script.{AsksNothing, GivesIdOfScriptField, GivesStep, GivesValue, AsksRead}
use Rattle.ua_answers.specs.Script.{AsksWrite, IsCutBehindFirst, range_denoted, range_of, typed_denoted}
use Rattle.ua_answers.specs.ScriptLineFault.{script_id_fault}
use Rattle.ua_answers.specs.declared.fault.ScriptLineFault.{ScriptLineFault}
use Rattle.ua_answers.specs.declared.fault.ScriptLineFault.TheVariants.{Bad, NoMemory}
use Rattle.ua_answers.specs.declared.script.Step.TheVariants.{Read, Write, Renew}

-- ---- words

first_of : (a b : List ℕ) (xs ys : List (List ℕ)) → a ∷ xs ≡ b ∷ ys → a ≡ b
first_of a b xs ys e = cc

read_write : (xs ys : List (List ℕ)) → codes "read" ∷ xs ≡ codes "write" ∷ ys → ⊥
read_write xs ys e = let w : ◌≡◌ {A = ℕ} 114 119 = cc in omega arith

read_renew : (xs ys : List (List ℕ)) → codes "read" ∷ xs ≡ codes "renew" ∷ ys → ⊥
read_renew xs ys e = let w : ◌≡◌ {A = ℕ} 97 110 = cc in omega arith

write_renew : (xs ys : List (List ℕ)) → codes "write" ∷ xs ≡ codes "renew" ∷ ys → ⊥
write_renew xs ys e = let w : ◌≡◌ {A = ℕ} 119 114 = cc in omega arith

-- ---- lines that begin with `read`

no_read : (fields : List (List ℕ)) (id : List ℕ) (rest : List (List ℕ)) → fields ≡ id ∷ rest
    → ((node : NodeId) (range : Option (List ℕ)) → NamesId id node → range_denoted rest ≡ Some range → ⊥)
    → AsksNothing (codes "read" ∷ fields)
no_read fields id rest e never (Read node range) h =
    let same : h.id ≡ id = let p = h.parts in cc in
    let more : h.rest ≡ rest = let p = h.parts in cc in
    never node range (subst (λ (t : List ℕ). NamesId t node) same h.names) (subst (λ (t : List (List ℕ)). range_denoted t ≡ Some range) more h.part)
no_read fields id rest e never (Write node value) h = read_write fields (h.id ∷ h.kind ∷ h.text ∷ []) h.parts
no_read fields id rest e never Renew h = read_renew fields [] h

none_some : {A : Type 0} (o : Option A) (x : A) → o ≡ None → o ≡ Some x → ⊥
none_some o x e f = let p : None ≡ Some x = sym e ∙ f in absurd cc

-- where the fields behind the first name no range
pub no_range : (text id behind : List ℕ) → IsCutBehindFirst text id behind → range_denoted (pieces 9 behind) ≡ None → AsksNothing (codes "read" ∷ pieces 9 text)
no_range text id behind w e = no_read (pieces 9 text) id w.rest w.parts (λ node range names part. none_some (range_denoted w.rest) range (w.part ∙ e) part)

-- where the first names no NodeId
pub no_id : (text id behind : List ℕ) → IsCutBehindFirst text id behind → ((node : NodeId) → NamesId id node → ⊥) → AsksNothing (codes "read" ∷ pieces 9 text)
no_id text id behind w never = no_read (pieces 9 text) id w.rest w.parts (λ node range names part. never node names)

pub long_range : (parts : List (List ℕ)) → 2 ≤ length parts → range_denoted parts ≡ None
long_range [] h = absurd (omega arith)
long_range (x ∷ []) h = absurd (omega arith)
long_range (x ∷ (y ∷ ys)) h = refl

pub one_range : (behind : List ℕ) (t : Bool) → pieces 9 behind ≡ behind ∷ [] → has_short_fields behind ≡ t
    → range_denoted (pieces 9 behind) ≡ cond t (Some (range_of behind)) None
one_range behind t e s = ap range_denoted e ∙ ap (λ (b : Bool). cond b (Some (range_of behind)) None) s

pub asks_read : (text id behind : List ℕ) (node : NodeId) (range : Option (List ℕ)) → IsCutBehindFirst text id behind → NamesId id node
    → range_denoted (pieces 9 behind) ≡ Some range → AsksRead (codes "read" ∷ pieces 9 text) node range
asks_read text id behind node range w names part = record {
  id = id;
  rest = w.rest;
  parts = ap (λ (t : List (List ℕ)). codes "read" ∷ t) w.parts;
  names = names;
  part = w.part ∙ part;
}

-- ---- lines that begin with `write`

no_write_by : (fields : List (List ℕ)) → ((node : NodeId) (value : VariantData) → AsksWrite (codes "write" ∷ fields) node value → ⊥)
    → AsksNothing (codes "write" ∷ fields)
no_write_by fields never (Read node range) h = read_write (h.id ∷ h.rest) fields (sym h.parts)
no_write_by fields never (Write node value) h = never node (variant_of value) h
no_write_by fields never Renew h = write_renew fields [] h

-- where there are not just three fields
pub no_three : (fields : List (List ℕ)) → (length fields ≡ 3 → ⊥) → AsksNothing (codes "write" ∷ fields)
no_three fields never = no_write_by fields (λ node value h. never (let p : fields ≡ h.id ∷ h.kind ∷ h.text ∷ [] = let q = h.parts in cc in ap length p))

pub no_write : (fields : List (List ℕ)) (id kind text : List ℕ) → fields ≡ id ∷ kind ∷ text ∷ []
    → ((node : NodeId) (value : VariantData) → NamesId id node → typed_denoted kind text ≡ Some value → ⊥)
    → AsksNothing (codes "write" ∷ fields)
no_write fields id kind text e never = no_write_by fields (λ node value h.
    let a : h.id ≡ id = let p = h.parts in cc in
    let b : h.kind ≡ kind = let p = h.parts in cc in
    let c : h.text ≡ text = let p = h.parts in cc in
    never node value (subst (λ (t : List ℕ). NamesId t node) a h.names) (ap (λ (t : List ℕ). typed_denoted t text) (sym b)
    ∙ ap (λ (t : List ℕ). typed_denoted h.kind t) (sym c) ∙ h.denotes))

pub no_write_id : (fields : List (List ℕ)) (id kind text : List ℕ) → fields ≡ id ∷ kind ∷ text ∷ [] → ((node : NodeId) → NamesId id node → ⊥)
    → AsksNothing (codes "write" ∷ fields)
no_write_id fields id kind text e never = no_write fields id kind text e (λ node value names denotes. never node names)

pub no_write_value : (fields : List (List ℕ)) (id kind text : List ℕ) → fields ≡ id ∷ kind ∷ text ∷ [] → typed_denoted kind text ≡ None
    → AsksNothing (codes "write" ∷ fields)
no_write_value fields id kind text e none = no_write fields id kind text e (λ node value names denotes. none_some (typed_denoted kind text) value none denotes)

-- ---- lines that begin with no such word

pub no_word : (word : List ℕ) (rest : List (List ℕ)) → (word ≡ codes "read" → ⊥) → (word ≡ codes "write" → ⊥) → (word ≡ codes "renew" → rest ≡ [] → ⊥)
    → AsksNothing (word ∷ rest)
no_word word rest a b c (Read node range) h = a (first_of word (codes "read") rest (h.id ∷ h.rest) h.parts)
no_word word rest a b c (Write node value) h = b (first_of word (codes "write") rest (h.id ∷ h.kind ∷ h.text ∷ []) h.parts)
no_word word rest a b c Renew h = c (first_of word (codes "renew") rest [] h) (let e : rest ≡ [] = cc in e)

-- a word and fields behind it
pub no_first : (word rest : List ℕ) → (word ≡ codes "read" → ⊥) → (word ≡ codes "write" → ⊥) → AsksNothing (word ∷ pieces 9 rest)
no_first word rest a b = no_word word (pieces 9 rest) a b (λ e none. let few = ap length none in let some = at_least_one 9 rest in omega arith)

-- ---- the first field, and what stands behind it

pub cut_behind : (text : List ℕ) (r : Option (Bor (List ℕ) × Bor (List ℕ))) (d : Bor (List ℕ) × Bor (List ℕ)) → d.0.now ≡ text → d.1.now ≡ []
    → MatchOption r (pieces 9 text ≡ text ∷ []) (λ x. pieces 9 text ≡ x.0.now ∷ pieces 9 x.1.now)
    → IsCutBehindFirst text (unwrap_or r d).0.now (unwrap_or r d).1.now
cut_behind text None d e f h = record {
  rest = [];
  parts = h ∙ ap (λ (t : List ℕ). t ∷ []) (sym e);
  part = ap (λ (t : List ℕ). range_denoted (pieces 9 t)) (sym f);
}
cut_behind text (Some x) d e f h = record { rest = pieces 9 x.1.now; parts = h; part = refl }

-- ---- NodeIds and values

pub id_refused : (text : List ℕ) (x : TextFault) → (IsErrOf {T = NodeId} (Err x) NotNodeId → (v : NodeId) → ¬ (NamesNode v text))
    → GivesIdOfScriptField text (Err (script_id_fault x))
id_refused text NotNodeId h = λ id n. h refl id n.1
id_refused text NoTextMemory h = tt

-- ---- what is answered

pub not_short : (text : List ℕ) → 1073741824 < length text → has_short_fields text ≡ false
not_short text h = grind (arith, nat_tests)

pub short_enough : (text : List ℕ) → length text ≤ 1073741824 → has_short_fields text ≡ true
short_enough text h = grind (arith, nat_tests)

pub read_refused : (text id behind : List ℕ) (x : ScriptLineFault) → IsCutBehindFirst text id behind → GivesIdOfScriptField id (Err x)
    → GivesStep (codes "read" ∷ pieces 9 text) (Err x)
read_refused text id behind Bad w h = no_id text id behind w h
read_refused text id behind NoMemory w h = tt

pub write_refused_id : (fields : List (List ℕ)) (id kind text : List ℕ) (x : ScriptLineFault) → fields ≡ id ∷ kind ∷ text ∷ [] → GivesIdOfScriptField id (Err x)
    → GivesStep (codes "write" ∷ fields) (Err x)
write_refused_id fields id kind text Bad e h = no_write_id fields id kind text e h
write_refused_id fields id kind text NoMemory e h = tt

pub write_refused_value : (fields : List (List ℕ)) (id kind text : List ℕ) (x : ScriptLineFault) → fields ≡ id ∷ kind ∷ text ∷ [] → GivesValue kind text (Err x)
    → GivesStep (codes "write" ∷ fields) (Err x)
write_refused_value fields id kind text Bad e h = no_write_value fields id kind text e h
write_refused_value fields id kind text NoMemory e h = tt

-- three fields, one behind the other
pub three : (line id rest kind text : List ℕ) → pieces 9 line ≡ id ∷ pieces 9 rest → pieces 9 rest ≡ kind ∷ pieces 9 text → pieces 9 text ≡ text ∷ []
    → pieces 9 line ≡ id ∷ kind ∷ text ∷ []
three line id rest kind text h i last = h ∙ ap (λ (t : List (List ℕ)). id ∷ t) (i ∙ ap (λ (t : List (List ℕ)). kind ∷ t) last)
