-- A refusal of a pack says what is wrong with it: its start, its Config, or what stands among its items.
use mathlib.Core.Path.{◌≡◌, refl, sym, ap, ap₂, subst, ◌∙◌}
use mathlib.Core.List.{List, [], ◌∷◌, ◌++◌, append_assoc}
use Prim.Native.Nat.{ℕ, ◌+◌, ◌-◌, ◌<◌, ◌≤◌}
use native.Mathlib.Omega.{arith}
use lib.Dec.{ltb, eqb}
use lib.ListN.{length, take, drop, length-append, length-drop, take-append-drop}
use borrow.Author.Tests.{ltb-true, ltb-false, eqb-true}
use Rattle.runs.specs.Digits.{Bytes}
use Rattle.runs.proofs.Cases.{split, absurd_eq}
use Rattle.refusals.specs.declared.Refusal.{Refusal}
use Rattle.refusals.specs.Outcomes.{Outcome, fine, refused, and_then}
use Rattle.refusals.proofs.Outcomes.{then_stops, then_kept}
use Rattle.numbers.specs.Lengths.{form_bytes}
use Rattle.numbers.proofs.Lengths.{form_sound}
use Rattle.pack.specs.Fixed.{key}
use Rattle.pack.specs.Payloads.{payload_at, Found, whole, wrong}
use Rattle.std.specs.Prelude.{Ok, Err}
use Rattle.pack.specs.Config.{Mapping, config_maps}
use Rattle.pack.specs.Items.{items_from}
use Rattle.pack.specs.Reading.{Opening, value_start, opening_at, pack_ground, read_from, reading}
use Rattle.pack.proofs.Payloads.{payload_within}
use Rattle.numbers.specs.Big.{big_at}
use Rattle.pack_layout.specs.Layout.{chunks_bytes, config_bytes}
use Rattle.pack_layout.specs.Well.{chunks_count}
use Rattle.pack_layout.specs.Refused.{Has, Framed, Front, Refused, in_config, at_item, in_sync}
use Rattle.pack_layout.proofs.Elements.{has_laid, has_back}
use Rattle.pack_layout.proofs.Opens.{OpeningRead, no_config_read, config_read, opening_of, StartRead, start_of}
use Rattle.pack_layout.proofs.Described.{opening_described}
use Rattle.pack_layout.proofs.BrokenStart.{start_refused}
use Rattle.pack_layout.proofs.Packs.{key_long}
use Rattle.pack_layout.proofs.Wrong.{WrongAt, no_item, in_group}
use Rattle.pack_layout.proofs.Stops.{items_stop}
use Rattle.pack_layout.proofs.StopsConfig.{config_stop}

-- key and length of the pack s, whose value starts at `at`
record StartLaid (s : List ℕ) (at : ℕ) : Type 0 where
  start : List ℕ
  long : length start ≡ at
  framed : Framed s start (drop at s)

start_framed : (s : List ℕ) (at : ℕ) → Bytes s → StartRead s at → StartLaid s at
start_framed s at b r =
    let n = length s - at in
    let f = form_sound s 16 n at b r.size in
    let same : n ≡ length (drop at s) = sym (length-drop at s) in
    let start = key ++ form_bytes f.form n in
    record {
      start = start;
      long = length-append key (form_bytes f.form n) ∙ ap (λ (k : ℕ). k + length (form_bytes f.form n)) key_long ∙ sym f.ends;
      framed = record {
        small = r.small;
        form = f.form;
        fits = (f.most, rw (sym same) f.holds);
        begins = ap (λ (k : ℕ). key ++ form_bytes f.form k) same;
        is =
            sym (take-append-drop 16 s) ∙ ap₂ (λ (x y : List ℕ). x ++ y) r.keyed f.stands
            ∙ sym (append_assoc key (form_bytes f.form n) (drop at s));
      };
    }

-- a list of no length
no_bytes : (l : List ℕ) → length l ≤ 0 → l ≡ []
no_bytes [] h = refl
no_bytes (x ∷ l) h = absurd (omega arith)

-- only a Config that comes after something is out of place: one that stands first is read as such
after_something : {s : List ℕ} {at o next : ℕ} {ms : List Mapping} (x y w : List ℕ) → OpeningRead s at o ms next → drop at s ≡ x ++ drop next s
    → drop at s ≡ x ++ y ++ w → (v rest : List ℕ) → Has w 1 v rest → 0 < length (x ++ y)
after_something {s} {at} x y w (no_config_read none) e g v rest h =
    split (ltb 0 (length (x ++ y)))
    (λ a. ltb-true _ _ a)
    (λ a. let same : drop at s ≡ w = g ∙ ap (λ (l : List ℕ). l ++ w) (no_bytes (x ++ y) (ltb-false _ _ a)) in
    let r = has_back s at 1 v rest (subst (λ (l : List ℕ). Has l 1 v rest) (sym same) h) in
    absurd (none r.from (length v) r.found))
after_something {s} {at} x y w (config_read v l e h r) stands g value rest has =
    let q = payload_within s at 1 v l e in omega (arith, length-append x y, ap length stands, length-append x (drop (v + l) s), length-drop at s, length-drop (v + l) s)

module _ (s : List ℕ) (b : Bytes s) (why : Refusal) (place : ℕ) where
  -- a Config that is refused
  config_says : (at : ℕ) → StartRead s at → opening_at s at ≡ refused why place → Refused s why place
  unfolding opening_at
  config_says at r h = found (payload_at s at) refl
    where
      found : (f : Found) → payload_at s at ≡ f → Refused s why place
      found (Err w) e = let i : ◌≡◌ {A = Outcome Opening} (fine (record { offset = 0; mappings = []; next = at })) (refused why place) = simp e at h in absurd_eq (cc)
      found (Ok x) e =
          let t = x.tag in
          let v = x.value.start in
          let l = x.value.len in
          split (eqb t 1)
          (λ a. let e1 : payload_at s at ≡ whole 1 v l = e ∙ ap (λ (n : ℕ). whole n v l) (eqb-true _ _ a) in
          let x = payload_within s at t v l e in
          let i = then_kept (config_maps s at v l) (λ ms. record { offset = big_at s v 2; mappings = ms; next = v + l }) (simp (e, a) at h) in
          let c = config_stop s at v l b x.inside i in
          let f = start_framed s at b r in
          subst (Refused s why) (f.long ∙ c.1)
          (in_config f.start (drop at s) (take l (drop v s)) (drop (v + l) s) f.framed (has_laid s at 1 v l b e1) c.0))
          (λ a. let i : ◌≡◌ {A = Outcome Opening} (fine (record { offset = 0; mappings = []; next = at })) (refused why place) = simp (e, a) at h in absurd_eq (cc))

  -- items that are refused, after what opens the pack
  items_says : (at : ℕ) (o : Opening) → StartRead s at → OpeningRead s at o.offset o.mappings o.next
      → items_from (length s) s (pack_ground o.offset o.mappings) o.next 0 ≡ refused why place → Refused s why place
  items_says at o r p h =
      let f = start_framed s at b r in
      let d = opening_described s b p in
      let i = items_stop s (pack_ground o.offset o.mappings) b (length s) o.next 0 (omega arith) (omega arith) h in
      let x = config_bytes d.first in
      let y = chunks_bytes i.chunks in
      let w = i.left in
      let stands : drop at s ≡ x ++ y ++ w = d.stands ∙ ap (λ (l : List ℕ). x ++ l) i.stands ∙ sym (append_assoc x y w) in
      let framed : Framed s f.start (x ++ y ++ w) = subst (Framed s f.start) stands f.framed in
      let laid : Front (x ++ y) (0 + chunks_count i.chunks) =
      record { first = d.first; chunks = i.chunks; opening = d.well; items = i.well; count = omega arith; few = i.few; is = refl } in
      says f.start (x ++ y) w framed laid (after_something x y w p d.stands stands) i.wrong
    where
      -- what is wrong after this start and this content
      says : {used : ℕ} (start content w : List ℕ) → Framed s start (content ++ w) → Front content used → ((v rest : List ℕ) → Has w 1 v rest → 0 < length content)
          → WrongAt s w used why place → Refused s why place
      says start content w framed laid first (no_item there wrong) =
          let whole = framed.is in
          let long = ap length whole ∙ length-append start (content ++ w) in
          let same : length (start ++ content) ≡ place = omega (arith, there, long, length-append content w, length-append start content) in
          subst (Refused s why) same (at_item start content w framed laid (wrong start content whole first))
      says start content w framed laid first (in_group g) =
          subst (Refused s why) (sym g.there)
          (in_sync start content w g.rest g.offset g.duration g.elements g.left framed laid g.offset_fits g.duration_fits g.well g.few g.has g.wrong)

  -- a pack that is refused
  pub refused_says : reading s ≡ refused why place → Refused s why place
  unfolding reading read_from
  refused_says h =
      then_stops (value_start s) (λ at. and_then (opening_at s at) (read_from s)) h
      (λ z. start_refused s why place b z)
      (λ at begins z. let r = start_of s at begins in
      then_stops (opening_at s at) (read_from s) z
      (λ y. config_says at r y)
      (λ o opens y. items_says at o r (opening_of s at o opens)
      (then_kept (items_from (length s) s (pack_ground o.offset o.mappings) o.next 0) (λ body. record { offset = o.offset; mappings = o.mappings; body = body }) y)))
