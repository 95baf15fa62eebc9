-- Slots against pages: when a new entry needs a page, and how many pages so many slots need.
use Rattle.std.specs.Prelude.{◌≡◌, refl, ◌↔◌, Bool, true, false, ℕ, zero, suc, ◌+◌, ◌-◌, ◌*◌, ◌≤◌, ◌<◌, length}
use Rattle.std.proofs.Common.{ap, ◌∙◌, mul-le-mul_left, arith, eq-eqb, ne_eqb}
use Rattle.std.proofs.Math.Decide.{dec_lt}
use Rattle.geometry.specs.ChooseLaws.{choose_true, choose_false}
use Rattle.rules.specs.PageSets.{bit, count, Once}
use Rattle.rules.proofs.PageSetLaws.{hit_same, same, other, hits}
use Rattle.rules.specs.Tree.{key_of, width, Items, end, page, file, dir, own_pages, keys}
use Rattle.rules.specs.WellFormed.{IsDirectory}
use Rattle.rules.specs.Paths.{Found, nothing, a_file, a_directory, find}
use Rattle.rules.specs.Put.{is_full}
use Rattle.rules.specs.Delete.{remove}
use Rattle.rules.proofs.EditLaws.{width_some, none_found, find_beside_removed}
use Rattle.editing_theorems.specs.Capacity.{slots_here, PagesHold}

-- the slots that a directory's entries take
abbrev pub slots : Items → ℕ
slots end = 0
slots (page p t) = slots t
slots (file l ls t) = width l + slots t
slots (dir l d t) = width l + slots t

-- those that one takes
abbrev pub width_found : Found → ℕ
width_found nothing = 0
width_found (a_file l ls) = width l
width_found (a_directory l d) = width l

-- the slots that the pages to come have
abbrev pub room_for : ℕ → ℕ → Items → ℕ
room_for next later end = 0
room_for next later (page p t) = next + room_for later later t
room_for next later (file l ls t) = room_for next later t
room_for next later (dir l d t) = room_for next later t

room_even : (later : ℕ) (t : Items) → room_for later later t ≡ later * length (own_pages t)
room_even later end = omega arith
room_even later (page p t) = omega (arith, room_even later t)
room_even later (file l ls t) = room_even later t
room_even later (dir l d t) = room_even later t

-- no page has space: as many slots are taken as there are
pub full_size : (later next r : ℕ) (t : Items) → is_full later next r t ≡ true → r + room_for next later t ≤ slots t
full_size later next zero end e = omega arith
full_size later next (suc r) end e = absurd (let z : ◌≡◌ {A = ℕ} 0 1 = ap bit e in omega arith)
full_size later next zero (page p t) e = omega (arith, full_size later later next t e)
full_size later next (suc r) (page p t) e = absurd (let z : ◌≡◌ {A = ℕ} 0 1 = ap bit e in omega arith)
full_size later next r (file l ls t) e = omega (arith, full_size later next (r - width l) t e)
full_size later next r (dir l d t) e = omega (arith, full_size later next (r - width l) t e)

-- there are never more
pub holds_size : (next later r : ℕ) (t : Items) → PagesHold next later t → slots_here t ≤ r → slots t ≤ r + room_for next later t
holds_size next later r end h k = omega arith
holds_size next later r (page p t) h k = omega (arith, holds_size later later next t h.1 h.0)
holds_size next later r (file l ls t) h k = omega (arith, holds_size next later (r - width l) t h (omega arith))
holds_size next later r (dir l d t) h k = omega (arith, holds_size next later (r - width l) t h (omega arith))

-- a page has space: fewer
pub spare_size : (later next r : ℕ) (t : Items) → is_full later next r t ≡ false → PagesHold next later t → slots_here t ≤ r → slots t < r + room_for next later t
spare_size later next zero end e h k = absurd (let z : ◌≡◌ {A = ℕ} 1 0 = ap bit e in omega arith)
spare_size later next (suc r) end e h k = omega arith
spare_size later next zero (page p t) e h k = omega (arith, spare_size later later next t e h.1 h.0)
spare_size later next (suc r) (page p t) e h k = omega (arith, holds_size later later next t h.1 h.0)
spare_size later next r (file l ls t) e h k = omega (arith, spare_size later next (r - width l) t e h (omega arith))
spare_size later next r (dir l d t) e h k = omega (arith, spare_size later next (r - width l) t e h (omega arith))

-- a directory's pages: the first, and as many as there is room for beyond it
pub directory_room : (next later : ℕ) (t : Items) → IsDirectory t → (j : ℕ) × (length (own_pages t) ≡ suc j) × (room_for next later t ≡ next + later * j) × (slots_here t ≡ 0)
directory_room next later end i = absurd i
directory_room next later (page p t) i = (length (own_pages t), refl, ap (λ (x : ℕ). next + x) (room_even later t), refl)
directory_room next later (file l ls t) i = absurd i
directory_room next later (dir l d t) i = absurd i

pub less_pages : (e later a b : ℕ) → suc (e + later * a) ≤ e + later * b → a < b
less_pages e later a b h = elim (dec_lt a b) [ yes k ↦ k | no k ↦ absurd (omega (arith, mul-le-mul_left {m = b} {n = a} later (omega arith))) ]

-- a new entry needs a page exactly if as many slots are taken as there are
pub full_exactly : (next later : ℕ) (t : Items) → IsDirectory t → PagesHold next later t → (is_full later next 0 t ≡ true) ↔ (slots t ≡ room_for next later t)
full_exactly next later t i h =
    let z : slots_here t ≤ 0 = omega (arith, (directory_room next later t i).3) in (
      λ e. omega (arith, full_size later next 0 t e, holds_size next later 0 t h z),
      λ e. go (is_full later next 0 t) refl z e,
    )
  where
    go : (b : Bool) → is_full later next 0 t ≡ b → slots_here t ≤ 0 → slots t ≡ room_for next later t → b ≡ true
    go true q z e = refl
    go false q z e = absurd (omega (arith, spare_size later next 0 t q h z))

-- ---- the slots of two directories, where one has the entries of the other
pub remove_slots : (k : ℕ) (t : Items) → slots t ≡ width_found (find k t) + slots (remove k t)
remove_slots k end = refl
remove_slots k (page p t) = remove_slots k t
remove_slots k (file l ls t) = elim (hits k (key_of l)) [
  | same e i ↦ simp (eq-eqb k (key_of l) e, choose_true)
  | other e i ↦ simp (ne_eqb k (key_of l) e, choose_false) (omega (arith, remove_slots k t))
]
remove_slots k (dir l d t) = elim (hits k (key_of l)) [
  | same e i ↦ simp (eq-eqb k (key_of l) e, choose_true)
  | other e i ↦ simp (ne_eqb k (key_of l) e, choose_false) (omega (arith, remove_slots k t))
]

-- what is there takes a slot
pub some_slots : (k : ℕ) (t : Items) → 1 ≤ count k (keys t) → 1 ≤ width_found (find k t)
some_slots k t h = go (find k t) refl
  where
    go : (f : Found) → find k t ≡ f → 1 ≤ width_found f
    go nothing e = absurd (omega (arith, none_found k t e))
    go (a_file l ls) e = width_some l
    go (a_directory l d) e = width_some l

-- every entry of the directory t has its slots in the directory b
abbrev pub SlotsAmong : Items → Items → Type 0
SlotsAmong t b = (k : ℕ) → 1 ≤ count k (keys t) → width_found (find k b) ≡ width_found (find k t)

-- so have those of t after its first entry, with the key j, in b without that key
rest_among : (j : ℕ) (s t b : Items) → count j (keys t) ≡ 0 → ((k : ℕ) → (k ≡ j → ⊥) → find k s ≡ find k t) → ((k : ℕ) → count k (keys t) ≤ count k (keys s)) → SlotsAmong s b
    → SlotsAmong t (remove j b)
rest_among j s t b z f c h k n = elim (hits k j) [
  | same e i ↦ absurd (omega (arith, ap (λ (x : ℕ). count x (keys t)) e))
  | other e i ↦ ap width_found (find_beside_removed k j e b) ∙ h k (omega (arith, c k)) ∙ ap width_found (f k e)
]

pub slots_among : (t b : Items) → Once (keys t) → SlotsAmong t b → slots t ≤ slots b
slots_among end b o h = omega arith
slots_among (page p t) b o h = slots_among t b o h
slots_among (file l ls t) b o h =
    let j = key_of l in
    let w : width_found (find j b) ≡ width l = h j (omega (arith, hit_same j)) ∙ simp (eq-eqb j j refl, choose_true) in
    let r = rest_among j (file l ls t) t b (omega (arith, o j, hit_same j)) (λ k n. simp (ne_eqb k j n, choose_false)) (λ k. omega arith) h in
    omega (arith, remove_slots j b, slots_among t (remove j b) (λ x. omega (arith, o x)) r)
slots_among (dir l d t) b o h =
    let j = key_of l in
    let w : width_found (find j b) ≡ width l = h j (omega (arith, hit_same j)) ∙ simp (eq-eqb j j refl, choose_true) in
    let r = rest_among j (dir l d t) t b (omega (arith, o j, hit_same j)) (λ k n. simp (ne_eqb k j n, choose_false)) (λ k. omega arith) h in
    omega (arith, remove_slots j b, slots_among t (remove j b) (λ x. omega (arith, o x)) r)

-- and with an entry under a key that the first does not have, it has more
pub slots_more : (k : ℕ) (t b : Items) → Once (keys t) → count k (keys t) ≡ 0 → 1 ≤ count k (keys b) → ((j : ℕ) → (j ≡ k → ⊥) → 1 ≤ count j (keys t) → width_found (find j b) ≡ width_found (find j t))
    → suc (slots t) ≤ slots b
slots_more k t b o z n h =
    let r : SlotsAmong t (remove k b) = λ j m. elim (hits j k) [
      | same e i ↦ absurd (omega (arith, ap (λ (x : ℕ). count x (keys t)) e))
      | other e i ↦ ap width_found (find_beside_removed j k e b) ∙ h j e m
    ] in
    omega (arith, remove_slots k b, some_slots k b n, slots_among t (remove k b) o r)
