-- What is wrong with the start of a pack, in the words of the layout, both ways.
use mathlib.Core.Path.{◌≡◌, refl, sym, ap, subst, ◌∙◌}
use mathlib.Core.List.{List, ◌++◌, append_assoc}
use mathlib.Core.Bool.{true, false}
use Prim.Native.Nat.{ℕ, ◌+◌, ◌-◌, ◌<◌, ◌≤◌}
use native.Mathlib.Omega.{arith}
use lib.Dec.{ltb}
use lib.ListN.{length, take, drop, length-append, length-drop, take-append-drop}
use lib.Seq.{length-take-le, take_at, drop_at, take-append-le, drop-append-le}
use borrow.Author.Tests.{lt-ltb, le-ltb, ltb-true, ltb-false}
use Rattle.runs.specs.Digits.{Bytes}
use Rattle.runs.specs.Same.{same}
use Rattle.runs.proofs.Cases.{split, absurd_eq}
use Rattle.runs.proofs.Same.{same_refl, same_true, same_false}
use Rattle.refusals.specs.declared.Refusal.{Refusal}
use Rattle.refusals.specs.declared.Refusal.TheVariants as R
use Rattle.refusals.specs.Outcomes.{Outcome, fine, refused}
use Rattle.numbers.specs.Reads.{Reads, read, malformed, cut}
use Rattle.numbers.specs.Lengths.{length_at, form_bytes}
use Rattle.numbers.proofs.Lengths.{form_back, form_sound}
use Rattle.pack.specs.Fixed.{key, pack_cap}
use Rattle.pack.specs.Reading.{value_start}
use Rattle.pack_layout.specs.Well.{FormFits}
use Rattle.pack_layout.specs.Refused.{NoLength, Lacks, Refused, too_big, too_short, other_key, pack_bad_length, pack_runs_out, pack_trails}
use Rattle.pack_layout.proofs.BrokenLengths.{ValueLacks, Unread, no_length, no_value, length_bad, bad_length_lem, length_cut, value_cut, lacks_value}
use Rattle.pack_layout.proofs.Packs.{key_long}

-- a pack of allowed size that begins with the key
record Keyed (s : List ℕ) : Type 0 where
  small : length s ≤ pack_cap
  long : 16 ≤ length s
  begins : take 16 s ≡ key

-- it is the key and what follows
after_key : (s : List ℕ) → Keyed s → s ≡ key ++ drop 16 s
after_key s k = sym (take-append-drop 16 s) ∙ ap (λ (l : List ℕ). l ++ drop 16 s) k.begins

-- it runs past the end, or it ends before
runs_out_lem : (s : List ℕ) → Keyed s → ValueLacks (drop 16 s) → Refused s R.Short 0
runs_out_lem s k w =
    pack_runs_out k.small k.long w.form w.v w.fits
    (record {
      more = w.more;
      some = omega (arith, k.long);
      missing = w.missing;
      is = ap (λ (l : List ℕ). l ++ w.more) (after_key s k) ∙ append_assoc key (drop 16 s) w.more ∙ ap (λ (l : List ℕ). key ++ l) w.is;
    })

trails : (s : List ℕ) (l n : ℕ) → Bytes s → Keyed s → length_at s 16 ≡ read l n → l < length s - n → Refused s R.Trail 0
trails s l n b k e h =
    let f = form_sound s 16 l n b e in
    let d = drop n s in
    let v = take l d in
    let size = length-drop n s in
    let long : length v ≡ l = length-take-le l d (omega arith) in
    let z : drop 16 s ≡ form_bytes f.form (length v) ++ (v ++ drop l d) =
    f.stands ∙ ap (λ (m : ℕ). form_bytes f.form m ++ d) (sym long) ∙ ap (λ (y : List ℕ). form_bytes f.form (length v) ++ y) (sym (take-append-drop l d)) in
    pack_trails k.small f.form v (drop l d) (f.most, rw long f.holds) (omega (arith, length-drop l d)) (after_key s k ∙ ap (λ (y : List ℕ). key ++ y) z)

-- a start that is refused is wrong, for that reason
pub start_refused : (s : List ℕ) (why : Refusal) (place : ℕ) → Bytes s → value_start s ≡ refused why place → Refused s why place
unfolding value_start
start_refused s why place b h =
    split (ltb pack_cap (length s))
    (λ a. is (simp a at h) (too_big (ltb-true _ _ a)))
    (λ a. split (ltb (length s) 16)
    (λ c. is (simp (a, c) at h) (too_short (ltb-true _ _ c)))
    (λ c. split (same (take 16 s) key)
    (λ k. sized (length_at s 16) refl (record { small = ltb-false _ _ a; long = ltb-false _ _ c; begins = same_true _ _ k }) a c k)
    (λ k. is (simp (a, c, k) at h) (other_key (ltb-false _ _ a) (ltb-false _ _ c) (same_false _ _ k)))))
  where
    is : {r : Refusal} {p : ℕ} → ◌≡◌ {A = Outcome ℕ} (refused r p) (refused why place) → Refused s r p → Refused s why place
    is {r} {p} z w =
        let x : r ≡ why = cc in
        let y : p ≡ place = cc in
        subst (Refused s why) y (subst (λ (q : Refusal). Refused s q p) x w)

    sized : (r : Reads) → length_at s 16 ≡ r → Keyed s → ltb pack_cap (length s) ≡ false → ltb (length s) 16 ≡ false → same (take 16 s) key ≡ true
        → Refused s why place
    sized malformed e q a c k =
        is (simp (a, c, k, e) at h) (pack_bad_length q.small (drop 16 s) (after_key s q) (length_bad s 16 e))
    sized cut e q a c k =
        is (simp (a, c, k, e) at h) (runs_out_lem s q (length_cut s 16 b q.long e))
    sized (read l n) e q a c k =
        split (ltb (length s - n) l)
        (λ d. is (simp (a, c, k, e, d) at h) (runs_out_lem s q (value_cut s 16 l n b e (ltb-true _ _ d))))
        (λ d. split (ltb l (length s - n))
        (λ f. is (simp (a, c, k, e, d, f) at h) (trails s l n b q e (ltb-true _ _ f)))
        (λ f. let z : fine n ≡ refused why place = simp (a, c, k, e, d, f) at h in absurd_eq (cc)))

-- what is answered of a pack that begins with the key
module _ (s : List ℕ) (k : Keyed s) where
  start_forbidden : length_at s 16 ≡ malformed → value_start s ≡ refused R.Length 16
  unfolding value_start
  start_forbidden e =
      let a = k.small in
      let b = k.long in
      simp (le-ltb _ _ a, le-ltb _ _ b, k.begins, same_refl, e)

  start_unread : Unread s 16 → value_start s ≡ refused R.Short 0
  unfolding value_start
  start_unread (no_length e) =
      let a = k.small in
      let b = k.long in
      simp (le-ltb _ _ a, le-ltb _ _ b, k.begins, same_refl, e)
  start_unread (no_value l n e h) =
      let a = k.small in
      let b = k.long in
      simp (le-ltb _ _ a, le-ltb _ _ b, k.begins, same_refl, e, lt-ltb _ _ h)

  start_trails : (l n : ℕ) → length_at s 16 ≡ read l n → l < length s - n → value_start s ≡ refused R.Trail 0
  unfolding value_start
  start_trails l n e h =
      let a = k.small in
      let b = k.long in
      let c : l ≤ length s - n = omega arith in
      simp (le-ltb _ _ a, le-ltb _ _ b, k.begins, same_refl, e, le-ltb _ _ c, lt-ltb _ _ h)

-- a list that is the key and what follows
key_first : (s z : List ℕ) → length s ≤ pack_cap → s ≡ key ++ z → Keyed s × (drop 16 s ≡ z)
key_first s z a e = (
  record { small = a; long = omega (arith, ap length e, length-append key z, key_long); begins = ap (take 16) e ∙ take_at key z 16 key_long },
  ap (drop 16) e ∙ drop_at key z 16 key_long,
)

-- a start that is wrong is refused, for that reason, in the order of the checks
pub big_start : (s : List ℕ) → Bytes s → pack_cap < length s → value_start s ≡ refused R.Big 0
unfolding value_start
big_start s b h = simp (lt-ltb _ _ h)

pub short_start : (s : List ℕ) → Bytes s → length s < 16 → value_start s ≡ refused R.Short 0
unfolding value_start
short_start s b h = let a : length s ≤ pack_cap = omega arith in simp (le-ltb _ _ a, lt-ltb _ _ h)

pub key_start : (s : List ℕ) → Bytes s → length s ≤ pack_cap → 16 ≤ length s → (take 16 s ≡ key → ⊥) → value_start s ≡ refused R.Key 0
unfolding value_start
key_start s b a c h = split (same (take 16 s) key) (λ e. absurd (h (same_true _ _ e))) (λ e. simp (le-ltb _ _ a, le-ltb _ _ c, e))

pub length_start : (s : List ℕ) → Bytes s → length s ≤ pack_cap → (z : List ℕ) → s ≡ key ++ z → NoLength z → value_start s ≡ refused R.Length 16
length_start s b a z e h =
    let k = key_first s z a e in
    start_forbidden s k.0 (bad_length_lem s 16 b k.0.long (subst NoLength (sym k.1) h))

pub runs_out_start : (s : List ℕ) → Bytes s → length s ≤ pack_cap → 16 ≤ length s → (form : ℕ) (v : List ℕ) → FormFits form (length v)
    → Lacks s (key ++ (form_bytes form (length v) ++ v)) → value_start s ≡ refused R.Short 0
runs_out_start s b a c form v f w =
    let whole = form_bytes form (length v) ++ v in
    let k : take 16 s ≡ key = sym (take-append-le 16 s w.more c) ∙ ap (take 16) w.is ∙ take_at key whole 16 key_long in
    let e : drop 16 s ++ w.more ≡ whole = sym (drop-append-le 16 s w.more c) ∙ ap (drop 16) w.is ∙ drop_at key whole 16 key_long in
    start_unread s (record { small = a; long = c; begins = k })
    (lacks_value s 16 c (record { form = form; v = v; more = w.more; fits = f; missing = w.missing; is = e }))

pub trails_start : (s : List ℕ) → Bytes s → length s ≤ pack_cap → (form : ℕ) (v more : List ℕ) → FormFits form (length v) → 0 < length more
    → s ≡ key ++ (form_bytes form (length v) ++ (v ++ more)) → value_start s ≡ refused R.Trail 0
trails_start s b a form v more f m e =
    let fb = form_bytes form (length v) in
    let k = key_first s (fb ++ (v ++ more)) a e in
    let l = form_back s 16 form (length v) (v ++ more) k.1 f.0 f.1 in
    let size : length s - 16 ≡ length fb + (length v + length more) =
    sym (length-drop 16 s) ∙ ap length k.1 ∙ length-append fb (v ++ more) ∙ ap (λ (n : ℕ). length fb + n) (length-append v more) in
    start_trails s k.0 (length v) (16 + length fb) l (omega arith)
