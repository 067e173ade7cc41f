-- How a pack opens: the first byte tells a Config, and a Config's mappings tell the opening.
use Prim.Native.Nat.{ℕ, ◌+◌, ◌<◌, ◌≤◌}
use mathlib.Core.Path.{◌≡◌, refl, sym, ap, ◌∙◌, subst}
use mathlib.Core.Bool.{true, false}
use mathlib.Core.List.{List, [], ◌++◌}
use native.Mathlib.Omega.{arith}
use lib.Dec.{eqb}
use lib.ListN.{length, get_or, take, drop}
use borrow.Author.Tests.{le-ltb, lt-ltb, eq-eqb, eqb-true}
use Rattle.runs.specs.Digits.{Bytes}
use Rattle.runs.proofs.Cases.{split, absurd_eq}
use Rattle.runs.proofs.Stands.{here_is}
use Rattle.refusals.specs.declared.Refusal.{Refusal}
use Rattle.refusals.specs.declared.Refusal.TheVariants as R
use Rattle.refusals.specs.Outcomes.{Answer}
use Rattle.refusals.specs.Outcomes.{Outcome, fine, refused, and_then}
use Rattle.numbers.specs.Reads.{read}
use Rattle.numbers.proofs.Same.{same_read}
use Rattle.numbers.specs.Tags.{tag_at}
use Rattle.numbers.specs.Big.{big_at}
use Rattle.numbers.proofs.Tags.{one_byte, tag_canonical, tag_short}
use Rattle.pack.specs.Payloads.{tag_found, payload_at}
use Rattle.pack.specs.Config.{Mapping, mappings_from, config_maps}
use Rattle.pack.specs.Reading.{opening_at}
use Rattle.pack_config.specs.declared.table.Mappings.{Mappings}
use Rattle.pack_config.specs.First.{first_at}
use Rattle.pack_config.specs.Tables.{MapsWalked}
use Rattle.pack.specs.Payloads.{Found, whole, wrong}
use Rattle.std.specs.Prelude.{Ok, Err, Option, Some, None}
use Rattle.pack.specs.declared.Stretch.{Stretch}
use Rattle.pack.proofs.Payloads.{payload_parsed, payload_within}

-- the value of a Config
abbrev config_value : ℕ → ℕ → Stretch
config_value v l = record { start = v; len = l }

same_value : {r : Option Stretch} {v l w m : ℕ} → r ≡ Some (config_value v l) → r ≡ Some (config_value w m) → (v ≡ w) × (l ≡ m)
same_value {v = v} {l = l} {w = w} {m = m} e f =
    let i : config_value v l ≡ config_value w m = cc in
    (ap (λ (x : Stretch). x.start) i, ap (λ (x : Stretch). x.len) i)

-- the tag 1 is the byte 01
first_byte : (s : List ℕ) (at n : ℕ) → Bytes s → tag_at s at ≡ read 1 n → get_or s at 0 ≡ 1
first_byte s at n b h = here_is s at 1 (drop n s) ((tag_canonical s at 1 n b h).0 ∙ ap (λ (l : List ℕ). l ++ drop n s) (tag_short 1 (omega arith)))

pub first_past : (s : List ℕ) (at : ℕ) → length s ≤ at → None ≡ first_at s at
unfolding first_at payload_at tag_found tag_at
first_past s at h = simp (le-ltb _ _ h)

pub first_other : (s : List ℕ) (at : ℕ) → Bytes s → (get_or s at 0 ≡ 1 → ⊥) → None ≡ first_at s at
unfolding first_at
first_other s at b h = found (payload_at s at) refl
  where
    found : (r : Found) → payload_at s at ≡ r → None ≡ first_at s at
    found (Err why) e = simp e
    found (Ok x) e =
        let t = x.tag in
        let v = x.value.start in
        let l = x.value.len in
        split (eqb t 1)
        (λ q.
        let g = payload_parsed s at t v l e in
        absurd (h (first_byte s at g.after b (subst (λ (u : ℕ). tag_at s at ≡ read u g.after) (eqb-true t 1 q) g.tag))))
        (λ q. simp (e, q))

pub first_wrong : (s : List ℕ) (at : ℕ) (why : Refusal) → payload_at s at ≡ wrong why → None ≡ first_at s at
unfolding first_at
first_wrong s at why e = simp e

pub first_config : (s : List ℕ) (at t v l : ℕ) → at < length s → get_or s at 0 ≡ 1 → payload_at s at ≡ whole t v l → Some (config_value v l) ≡ first_at s at
unfolding first_at
first_config s at t v l h b e =
    let g = payload_parsed s at t v l e in
    let x : t ≡ get_or s at 0 = (same_read g.tag (one_byte s at h (λ z. omega arith) (omega arith))).0 in
    simp (e, eq-eqb _ _ (x ∙ b))

-- the ways in which a pack begins
first_cases : (P : Type 0) (s : List ℕ) (at : ℕ)
    → ((t v l : ℕ) → payload_at s at ≡ whole t v l → eqb t 1 ≡ true → first_at s at ≡ Some (config_value v l) → P)
    → ((t v l : ℕ) → payload_at s at ≡ whole t v l → eqb t 1 ≡ false → first_at s at ≡ None → P)
    → ((why : Refusal) → payload_at s at ≡ wrong why → first_at s at ≡ None → P)
    → P
unfolding first_at
first_cases P s at config other wrong = found (payload_at s at) refl
  where
    found : (r : Found) → payload_at s at ≡ r → P
    found (Err why) e = wrong why e (simp e)
    found (Ok x) e =
        let t = x.tag in
        let v = x.value.start in
        let l = x.value.len in
        split (eqb t 1) (λ q. config t v l e q (simp (e, q))) (λ q. other t v l e q (simp (e, q)))

pub first_within : (s : List ℕ) (at v l : ℕ) → first_at s at ≡ Some (config_value v l) → v + l ≤ length s
first_within s at v l h =
    first_cases (v + l ≤ length s) s at
    (λ t w m e q i. let z = same_value i h in omega (arith, z.0, z.1, (payload_within s at t w m e).inside))
    (λ t w m e q i. absurd_eq (cc)) (λ why e i. absurd_eq (cc))

-- a pack that does not begin with Config, and one that does
pub opens_without : (s : List ℕ) (at : ℕ) → first_at s at ≡ None → opening_at s at ≡ fine (record { offset = 0; mappings = []; next = at })
unfolding opening_at
opens_without s at h =
    first_cases (opening_at s at ≡ fine (record { offset = 0; mappings = []; next = at })) s at (λ t w m e q i. absurd_eq (cc))
    (λ t w m e q i. simp (e, q)) (λ why e i. simp e)

pub opens_with_lem : (s : List ℕ) (at v l : ℕ) → first_at s at ≡ Some (config_value v l)
    → opening_at s at ≡ and_then (config_maps s at v l) (λ ms. fine (record { offset = big_at s v 2; mappings = ms; next = v + l }))
unfolding opening_at
opens_with_lem s at v l h =
    first_cases (opening_at s at ≡ and_then (config_maps s at v l) (λ ms. fine (record { offset = big_at s v 2; mappings = ms; next = v + l }))) s at
    (λ t w m e q i.
    let z = same_value i h in
    simp (e, q, z.0, z.1))
    (λ t w m e q i. absurd_eq (cc)) (λ why e i. absurd_eq (cc))

-- a Config that is too short, and one that is long enough, whose part ends at x
pub maps_short : (s : List ℕ) (at v l : ℕ) → l < 2 → config_maps s at v l ≡ refused R.Config at
unfolding config_maps
maps_short s at v l h = simp (lt-ltb _ _ h)

pub maps_long : (s : List ℕ) (at v l x : ℕ) {r : Answer} {m : Mappings} → 2 ≤ l → x ≡ v + l → MapsWalked (mappings_from l (take x s) at [] (v + 2)) r m
    → MapsWalked (config_maps s at v l) r m
unfolding config_maps
maps_long s at v l x {r} {m} h e g =
    let z : mappings_from l (take x s) at [] (v + 2) ≡ config_maps s at v l = sym (simp (le-ltb _ _ h, e)) in
    subst (λ (o : Outcome (List Mapping)). MapsWalked o r m) z g
