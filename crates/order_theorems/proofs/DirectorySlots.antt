-- The slots of two directories whose entries are found alike, and when a page joins them for a new entry.
use Rattle.std.specs.Prelude.{◌≡◌, refl, ◌↔◌, Bool, true, false, ℕ, ◌+◌, ◌*◌, ◌≤◌, length}
use Rattle.std.proofs.Common.{ap, sym, ◌∙◌, inl, inr, eq-zero-or-pos, arith}
use Rattle.geometry.specs.declared.Geometry.{Geometry}
use Rattle.geometry.specs.Geometry.{first_entries, later_entries}
use Rattle.rules.specs.PageSets.{bit, count, Once}
use Rattle.rules.proofs.PageSetLaws.{same, other, hits}
use Rattle.rules.specs.Tree.{Label, key_of, Items, own_pages, keys}
use Rattle.rules.specs.WellFormed.{IsDirectory}
use Rattle.rules.specs.Paths.{find}
use Rattle.rules.specs.Put.{is_full, extra_pages}
use Rattle.rules.specs.Delete.{remove}
use Rattle.rules.proofs.EditLaws.{find_none, remove_fewer, find_removed, find_beside_removed}
use Rattle.editing_theorems.specs.Capacity.{PagesHold}
use Rattle.editing_theorems.specs.FullPages.{slots, width_found, room_for, directory_room, full_exactly, remove_slots, some_slots, slots_among}
use Rattle.editing_theorems.specs.PutDirectory.{extra_old, extra_new}

-- a directory of an accepted image: a first page, no key twice, no page with more slots taken than it holds
pub record Sound (g : Geometry) (d : Items) : Type 0 where
  pub is_directory : IsDirectory d
  pub names : Once (keys d)
  pub holds : PagesHold (first_entries g) (later_entries g) d

-- two directories with as many slots under every key but k differ in those under k alone
pub slots_but : (k : ℕ) (d e : Items) → Once (keys d) → Once (keys e) → ((j : ℕ) → (j ≡ k → ⊥) → width_found (find j e) ≡ width_found (find j d))
    → slots e + width_found (find k d) ≡ slots d + width_found (find k e)
slots_but k d e o u h =
    let alike : (j : ℕ) → width_found (find j (remove k e)) ≡ width_found (find j (remove k d)) = λ j. elim (hits j k) [
      | same q i ↦ rw q (ap width_found (find_removed k e (u k)) ∙ sym (ap width_found (find_removed k d (o k))))
      | other q i ↦ ap width_found (find_beside_removed j k q e) ∙ h j q ∙ sym (ap width_found (find_beside_removed j k q d))
    ] in
    omega (
      arith,
      slots_among (remove k d) (remove k e) (λ x. omega (arith, remove_fewer x k d, o x)) (λ j n. alike j),
      slots_among (remove k e) (remove k d) (λ x. omega (arith, remove_fewer x k e, u x)) (λ j n. sym (alike j)),
      remove_slots k d,
      remove_slots k e,
    )

-- a key is there exactly if it takes slots
no_slots : (k : ℕ) (t : Items) → width_found (find k t) ≡ 0 → count k (keys t) ≡ 0
no_slots k t h = elim (eq-zero-or-pos (count k (keys t))) [ inl z ↦ z | inr z ↦ absurd (omega (arith, some_slots k t z)) ]

has_slots : (k : ℕ) (t : Items) → 1 ≤ width_found (find k t) → 1 ≤ count k (keys t)
has_slots k t h = elim (eq-zero-or-pos (count k (keys t))) [ inr z ↦ z | inl z ↦ absurd (none z) ]
  where
    none : count k (keys t) ≡ 0 → ⊥
    none z = let e : width_found (find k t) ≡ 0 = ap width_found (find_none k t z) in omega (arith, e)

module _ (g : Geometry) where
  -- an entry that is there needs no page
  pub no_extra : (l : Label) (d : Items) → 1 ≤ width_found (find (key_of l) d) → extra_pages g l d ≡ 0
  no_extra l d h = extra_old g l d (has_slots (key_of l) d h)

  module _ (d e : Items) (sd : Sound g d) (se : Sound g e) (taken : slots d ≡ slots e) (own : length (own_pages d) ≡ length (own_pages e)) where
    room_same : room_for (first_entries g) (later_entries g) d ≡ room_for (first_entries g) (later_entries g) e
    room_same =
        let p = directory_room (first_entries g) (later_entries g) d sd.is_directory in
        let q = directory_room (first_entries g) (later_entries g) e se.is_directory in
        let j : p.0 ≡ q.0 = omega (arith, p.1, q.1, own) in
        p.2 ∙ ap (λ (x : ℕ). first_entries g + later_entries g * x) j ∙ sym q.2

    full_same : is_full (later_entries g) (first_entries g) 0 d ≡ is_full (later_entries g) (first_entries g) 0 e
    full_same = go (is_full (later_entries g) (first_entries g) 0 d) (is_full (later_entries g) (first_entries g) 0 e) refl refl
      where
        x : (is_full (later_entries g) (first_entries g) 0 d ≡ true) ↔ (slots d ≡ room_for (first_entries g) (later_entries g) d)
        x = full_exactly (first_entries g) (later_entries g) d sd.is_directory sd.holds

        y : (is_full (later_entries g) (first_entries g) 0 e ≡ true) ↔ (slots e ≡ room_for (first_entries g) (later_entries g) e)
        y = full_exactly (first_entries g) (later_entries g) e se.is_directory se.holds

        go : (a b : Bool) → is_full (later_entries g) (first_entries g) 0 d ≡ a → is_full (later_entries g) (first_entries g) 0 e ≡ b → a ≡ b
        go true b p q = sym (sym q ∙ y.1 (sym taken ∙ x.0 p ∙ room_same))
        go false true p q = sym p ∙ x.1 (taken ∙ y.0 q ∙ sym room_same)
        go false false p q = refl

    -- two directories with as many slots taken and as many pages need as many for two entries that are both there or both new
    pub same_extra : (l m : Label) → width_found (find (key_of l) d) ≡ width_found (find (key_of m) e) → extra_pages g l d ≡ extra_pages g m e
    same_extra l m w = elim (eq-zero-or-pos (width_found (find (key_of l) d))) [
      | inr z ↦ no_extra l d z ∙ sym (no_extra m e (omega arith))
      | inl z ↦ extra_new g l d (no_slots (key_of l) d z) ∙ ap bit full_same ∙ sym (extra_new g m e (no_slots (key_of m) e (omega arith)))
    ]
