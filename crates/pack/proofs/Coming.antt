-- What a loop over the items keeps: the items so far, before what is left, are those of the pack.
use Prim.Native.Nat.{ℕ, ◌+◌, ◌-◌, ◌<◌, ◌≤◌}
use mathlib.Core.Path.{◌≡◌, refl, sym, ap, ◌∙◌, subst}
use mathlib.Core.List.{List, [], ◌∷◌, ◌++◌, append_assoc, append-nil}
use mathlib.Core.Bool.{Bool, true, false, cond}
use native.Mathlib.Omega.{arith}
use lib.ListN.{length, take, drop}
use Rattle.runs.proofs.Stands.{part_length}
use Rattle.refusals.specs.declared.Refusal.{Refusal}
use Rattle.refusals.specs.declared.Refusal.TheVariants as R
use Rattle.refusals.specs.Outcomes.{Answer}
use Rattle.std.specs.Prelude.{Ok, Err}
use Rattle.refusals.specs.Refusals.{refused_at}
use Rattle.refusals.specs.Outcomes.{Outcome, fine, refused, and_then, answered}
use Rattle.pack.specs.Payloads.{Ground, payload, inners_from}
use Rattle.pack.specs.Items.{Part, one, many, Body, item_at, some_inside, sync_ground, sync_head, crc_good, with, items_from, count_of}
use Rattle.pack.specs.declared.Payload.{Payload}
use Rattle.pack.specs.Items.{Steps, plain, opens, closes, bad}
use Rattle.refusals.proofs.Lent.{refused_was, done_was}
use Rattle.refusals.proofs.Outcomes.{then_fine, then_refused, then_then, then_same, then_id}
use Rattle.pack.proofs.Payloads.{plain_fits, open_fits}
use Rattle.pack.proofs.Turns.{items_on, items_end, items_turn, inside_none, inside_some}
use Rattle.pack.specs.Inside.{InsideTold}

-- the inside of a Sync, as the definition cuts it and as the code does
abbrev pub inside_run : List ℕ → Ground → ℕ → ℕ → ℕ → Outcome (List Payload)
inside_run s grounds v l used = inners_from l (take (l - 4) (drop (v + 4) s)) (sync_ground s grounds v) (v + 4) 0 (used + 1)

pub inside_part : (s : List ℕ) (v l : ℕ) → take (v + l - (v + 4)) (drop (v + 4) s) ≡ take (l - 4) (drop (v + 4) s)
inside_part s v l = let e : v + l - (v + 4) ≡ l - 4 = omega arith in ap (λ (x : ℕ). take x (drop (v + 4) s)) e

pub inside_long : (s : List ℕ) (v l : ℕ) → v + l ≤ length s → 4 ≤ l → length (take (l - 4) (drop (v + 4) s)) ≡ l - 4
inside_long s v l h f = part_length s (v + 4) (l - 4) (omega arith)

pub inside_enough : (s : List ℕ) (at n v l : ℕ) → item_at s at n ≡ opens v l → length (take (l - 4) (drop (v + 4) s)) ≤ l
inside_enough s at n v l e = let f = open_fits s at n v l e in omega (arith, inside_long s v l f.0.inside f.1)

-- one part more
count_more : (ps : List Part) (x : Part) → count_of (ps ++ (x ∷ [])) ≡ count_of ps + count_of (x ∷ [])
unfolding count_of
count_more [] x = omega arith
count_more (one y ∷ ps) x = omega (arith, count_more ps x)
count_more (many h ys ∷ ps) x = omega (arith, count_more ps x)

abbrev before : List Part → Body → Outcome Body
before ps b = fine (record { parts = ps ++ b.parts; crc = b.crc })

pub record Coming (s : List ℕ) (grounds : Ground) (from : ℕ) (parts : List Part) (n at : ℕ) : Type 0 where
  pub fuel : ℕ
  pub room : n ≤ 64
  pub long : count_of parts ≡ n
  pub enough : length s ≤ at + fuel
  pub same : and_then (items_from fuel s grounds at n) (before parts) ≡ items_from (length s) s grounds from 0

pub coming_begins : (s : List ℕ) (grounds : Ground) (from : ℕ) → Coming s grounds from [] 0 from
unfolding count_of
coming_begins s grounds from = record {
  fuel = length s;
  room = omega arith;
  long = refl;
  enough = omega arith;
  same = then_id (before []) (λ b. refl) (items_from (length s) s grounds from 0);
}

-- the same for some items, which is all that a check keeps
pub record Counting (s : List ℕ) (grounds : Ground) (from n at : ℕ) : Type 0 where
  pub parts : List Part
  pub coming : Coming s grounds from parts n at

module _ {s : List ℕ} {grounds : Ground} {from : ℕ} {ps : List Part} {n at : ℕ} (g : Coming s grounds from ps n at) where
  ended : {c : Bool} → items_from g.fuel s grounds at n ≡ fine (record { parts = []; crc = c }) → items_from (length s) s grounds from 0 ≡ fine (record { parts = ps; crc = c })
  ended {c} e = sym g.same ∙ then_fine (before ps) e ∙ ap (λ (l : List Part). fine (record { parts = l; crc = c })) (append-nil ps)

  pub coming_ends : length s ≤ at → items_from (length s) s grounds from 0 ≡ fine (record { parts = ps; crc = false })
  coming_ends h = ended (items_end s grounds at n g.fuel h)

  module _ (h : at < length s) where
    turn : {r : Steps} → item_at s at n ≡ r → items_from g.fuel s grounds at n ≡ items_on s grounds at n (g.fuel - 1) r
    turn e = items_turn s grounds at n (g.fuel - 1) (omega (arith, g.enough)) h e

    stopped : {why : Refusal} {p : ℕ} → items_from g.fuel s grounds at n ≡ refused why p → items_from (length s) s grounds from 0 ≡ refused why p
    stopped e = sym g.same ∙ then_refused (before ps) e

    pub coming_bad : {why : Refusal} → item_at s at n ≡ bad why → items_from (length s) s grounds from 0 ≡ refused why at
    coming_bad e = stopped (turn e)

    -- a CRC, good or not
    judged : {v : ℕ} {b : Bool} → item_at s at n ≡ closes v → crc_good s v ≡ b → items_from g.fuel s grounds at n ≡ cond b (fine (record { parts = []; crc = true })) (refused R.Crc at)
    judged e d = turn e ∙ ap (λ (b : Bool). cond b (fine (record { parts = []; crc = true })) (refused R.Crc at)) d

    pub coming_good : {v : ℕ} → item_at s at n ≡ closes v → crc_good s v ≡ true → items_from (length s) s grounds from 0 ≡ fine (record { parts = ps; crc = true })
    coming_good e d = ended (judged e d)

    pub coming_crc : {v : ℕ} → item_at s at n ≡ closes v → crc_good s v ≡ false → items_from (length s) s grounds from 0 ≡ refused R.Crc at
    coming_crc e d = stopped (judged e d)

    -- one part more, and what is left after it
    on : (x : Part) (m next : ℕ) → n + count_of (x ∷ []) ≡ m → m ≤ 64 → at < next
        → items_from g.fuel s grounds at n ≡ and_then (items_from (g.fuel - 1) s grounds next m) (with x) → Coming s grounds from (ps ++ (x ∷ [])) m next
    unfolding and_then
    on x m next c r l e = record {
      fuel = g.fuel - 1;
      room = r;
      long = omega (arith, count_more ps x, g.long);
      enough = omega (arith, g.enough);
      same =
          then_same (before (ps ++ (x ∷ []))) (λ b. before ps (record { parts = x ∷ b.parts; crc = b.crc }))
          (λ b. ap (λ (q : List Part). fine (record { parts = q; crc = b.crc })) (append_assoc ps (x ∷ []) b.parts)) (items_from (g.fuel - 1) s grounds next m)
          ∙ sym (then_then (items_from (g.fuel - 1) s grounds next m) (with x) (before ps))
          ∙ ap (λ (o : Outcome Body). and_then o (before ps)) (sym e)
          ∙ g.same;
    }

    pub coming_plain : {t v l : ℕ} → item_at s at n ≡ plain t v l → Coming s grounds from (ps ++ (one (payload grounds at t v l) ∷ [])) (n + 1) (v + l)
    unfolding count_of
    coming_plain {t} {v} {l} e =
        let f = plain_fits s at n t v l e in
        on (one (payload grounds at t v l)) (n + 1) (v + l) (omega arith) (omega (arith, f.room)) (omega (arith, f.later)) (turn e)

    -- a Sync, by what is told of its inside, as the code cuts it
    module _ {v l : ℕ} (e : item_at s at n ≡ opens v l) {r : Answer} (i : InsideTold (take (v + l - (v + 4)) (drop (v + 4) s)) (sync_ground s grounds v) (v + 4) (n + 1) r) where
      answer : r ≡ answered (λ (xs : List Payload). n + 1 + length xs) (inside_run s grounds v l n)
      answer = (subst (λ (q : List ℕ). InsideTold q (sync_ground s grounds v) (v + 4) (n + 1) r) (inside_part s v l) i).told l (inside_enough s at n v l e)

      pub sync_refused : {why : Refusal} {p : ℕ} → r ≡ Err (refused_at why p) → items_from (length s) s grounds from 0 ≡ refused why p
      sync_refused d = stopped (turn e ∙ then_refused _ (then_refused (some_inside at) (refused_was _ answer d)))

      module _ {k : ℕ} (d : r ≡ Ok k) where
        inside : (xs : List Payload) × (inside_run s grounds v l n ≡ fine xs) × (n + 1 + length xs ≡ k)
        inside = done_was (λ (xs : List Payload). n + 1 + length xs) answer d

        pub sync_some : n + 1 ≤ k
        sync_some = omega (arith, inside.2)

        pub sync_none : k ≡ n + 1 → items_from (length s) s grounds from 0 ≡ refused R.Sync at
        sync_none u = stopped (turn e ∙ then_refused _ (then_fine (some_inside at) inside.1 ∙ inside_none at inside.0 (omega (arith, inside.2))))

        -- it holds payloads, and is one part more
        pub sync_on : (k ≡ n + 1 → ⊥)
            → (xs : List Payload) × (inside_run s grounds v l n ≡ fine xs) × (n + 1 + length xs ≡ k) × Coming s grounds from (ps ++ (many (sync_head s at v l (length xs)) xs ∷ [])) k (v + l)
        unfolding count_of
        sync_on u =
            let f = open_fits s at n v l e in
            let xs = inside.0 in
            let m = inside.2 in
            let x = many (sync_head s at v l (length xs)) xs in (
              xs,
              inside.1,
              m,
              on x k (v + l) (omega arith) (i.few k d) (omega (arith, f.0.later))
                  (turn e ∙ then_fine _ (then_fine (some_inside at) inside.1 ∙ inside_some at xs (λ z. u (omega arith)))
                  ∙ ap (λ (z : ℕ). and_then (items_from (g.fuel - 1) s grounds (v + l) z) (with x)) m),
            )
