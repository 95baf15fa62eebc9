-- The plan of a file put: the pages found, its entry, the change of its directory, and the pages then in use; for any pages that must not be taken.
use Rattle.std.specs.Prelude.{◌≡◌, List, [], ◌∷◌, ◌++◌, ℕ, ◌+◌, ◌-◌, ◌/◌, ◌≤◌, ◌<◌, take, drop, get_or, Option, Some, None}
use Rattle.std.proofs.Math.Path.{refl, ap, subst}
use Rattle.std.proofs.Common.{sym, ◌∙◌, inl, inr, eq-zero-or-pos, div-mul-le_self, mul-le-mul_right, arith, length-drop, take-add, le-leb}
use Rattle.std.proofs.lemmas.Bool.{lt-leb}
use Rattle.std.proofs.Math.ListN.{length}
use Rattle.geometry.specs.declared.Geometry.{Geometry}
use Rattle.geometry.specs.Geometry.{data_capacity, Valid}
use Rattle.packet.specs.declared.Budget.{Budget}
use Rattle.packet.specs.Budgets.{Progress}
use Rattle.rules.specs.declared.Entry.{Entry}
use Rattle.rules.specs.Result.{ok, err}
use Rattle.rules.proofs.ResultLaws.{then_ok, then_err, refuse_true, refuse_false}
use Rattle.rules.specs.PageSets.{count, free_pages}
use Rattle.rules.proofs.PageSetLaws.{hit_same, count_append, range_le}
use Rattle.rules.specs.Chain.{Link, pages, first, chain_of, pages_for}
use Rattle.rules.proofs.ChainLaws.{pages_chain_of}
use Rattle.rules.specs.Paths.{Path, file_key, Found, nothing, find}
use Rattle.rules.specs.Tree.{Label, Token, new_page, entry, entry_tokens, tokens, all_pages, keys, map_pages, Image}
use Rattle.rules.specs.Put.{kept_pages, put_edit}
use Rattle.rules.specs.Candidate.{chain_pages}
use Rattle.owners.specs.Free.{free_from}
use Rattle.editing_theorems.specs.Capacity.{capacity_least}
use Rattle.rules.proofs.EditLaws.{find_none}
use Rattle.rules.specs.EditLaws.{new_entry}
use Rattle.rules.proofs.Soundness.{token_pages, own_tokens}
use Rattle.rules.specs.Owners.{OwnerRecord}
use Rattle.editing_theorems.specs.PutDirectory.{extra_one, extra_old}
use Rattle.editing_theorems.specs.PutLaws as laws
use Rattle.editing_theorems.specs.PutLaws.{Asked}
use Rattle.editing_theorems.specs.EditedImage as es
use Rattle.editing_theorems.specs.EditedImage.{DirectoryOf, OneEdit}
use Rattle.marks.specs.RootLaws.{zero_taken}
use Rattle.writes.specs.declared.Change.{Change}
use Rattle.edit.specs.declared.Pages.{Pages}
use Rattle.edit.specs.declared.NewFile.{NewFile}
use Rattle.edit.specs.Pages.{PagesTaken, TakenIs, Takes}
use Rattle.edit.specs.Entering.{Exchanges, Joins, Entering}
use Rattle.edit.specs.ExchangeLaws.{pointer_is}
use Rattle.edit.specs.StepLaws.{step₂, step₃}
use Rattle.edit.specs.Plans.{change_of, count_told, entry_of, Plan, Putting}

-- ---- the pages of a directory by its tokens
page_there : (p : ℕ) (a ts : List Token) → 1 ≤ count p (token_pages (a ++ (new_page p ∷ ts)))
page_there p [] ts = omega (arith, hit_same p)
page_there p (new_page q ∷ a) ts = omega (arith, page_there p a ts)
page_there p (entry e ∷ a) ts = page_there p a ts

-- ---- the number of pages fits
pub pages_fit : (g : Geometry) → Valid g → (size extra : ℕ) → size ≤ 18446744073709551615 → extra ≤ 1 → extra + pages_for (data_capacity g) size ≤ 18446744073709551615
pages_fit g v size extra h k =
    let c = data_capacity g in
    let q = (size - 1) / c in
    omega (arith, capacity_least g v, div-mul-le_self (size - 1) c, mul-le-mul_right q (capacity_least g v))

module _ {in_use : Path → Image → List ℕ} {g : Geometry} {image : List ℕ} {table : List OwnerRecord} {bytes : List ℕ} (sized : length table ≡ g.pages) {f : NewFile} (P : Putting in_use g image table bytes f) where
  abbrev a : Asked g image bytes P.stands
  a = P.asked

  abbrev label : Label
  label = laws.label g image bytes P.stands P.asked

  abbrev pub kept : List ℕ
  kept = kept_pages P.asked.to P.asked.tree

  abbrev pub free : List ℕ
  free = free_pages (in_use P.asked.to P.asked.tree) g.pages

  abbrev pub wanted : ℕ
  wanted = pages_for (data_capacity g) (length bytes)

  pub one_extra : f.extra ≤ 1
  one_extra = omega (arith, P.at.extra_is, extra_one g label a.place.items)

  -- too few free pages
  pub full : (n : ℕ) → n ≡ pages_for (data_capacity g) (length bytes) → (r : Option Pages) → Takes table f.extra n r → ((p : Pages) → r ≡ Some p → ⊥)
      → put_edit g (free_pages (in_use P.asked.to P.asked.tree) g.pages) P.asked.to bytes P.asked.place ≡ err 17 0
  unfolding Takes
  full n e (Some p) T m = absurd (m p refl)
  full n e None T m =
      let us = in_use P.asked.to P.asked.tree in
      let k = T us P.represents in
      let h : length free < laws.extra g image bytes P.stands a + wanted = omega (arith, k, ap (λ (N : ℕ). length (free_pages us N)) sized, P.at.extra_is) in
      laws.edit_is g image bytes P.stands a free ∙ simp (lt-leb _ _ h, refuse_false, then_err)

  -- enough: the edit
  module _ {n : ℕ} (n_is : n ≡ pages_for (data_capacity g) (length bytes)) {r : Option Pages} (T : Takes table f.extra n r) {p : Pages} (m : r ≡ Some p) where
    pub T' : PagesTaken (in_use P.asked.to P.asked.tree) g.pages f.extra n p
    unfolding Takes
    T' =
        let us = in_use P.asked.to P.asked.tree in
        subst (λ (N : ℕ). PagesTaken us N f.extra n p) sized (subst (TakenIs us (length table) f.extra n) m (T us P.represents))

    pub room : laws.extra g image bytes P.stands P.asked + wanted ≤ length free
    room = omega (arith, T'.enough, P.at.extra_is)

    pub edit_is : put_edit g free P.asked.to bytes P.asked.place ≡ ok (laws.the_edit g image bytes P.stands P.asked free)
    edit_is = laws.edit_is g image bytes P.stands a free ∙ simp (le-leb _ _ room, refuse_true, then_ok)

    abbrev pub the_edit : OneEdit (laws.directory g image bytes P.stands P.asked)
    the_edit = laws.one_edit g image bytes P.stands P.asked free P.clear room

    abbrev chain : List Link
    chain = laws.chain g image bytes P.stands P.asked free

    abbrev pub change : Change
    change = change_of f p

    abbrev pub e : Entry
    e = entry_of f p n

    -- the chain that the code stores
    chain_is : chain ≡ chain_of (data_capacity g) (take wanted (free_from (in_use P.asked.to P.asked.tree) p.start g.pages)) bytes
    chain_is = ap (λ (l : List ℕ). chain_of (data_capacity g) (take wanted l) bytes) (ap (λ (k : ℕ). drop k free) P.at.extra_is ∙ T'.rest)

    starts : first chain ≡ p.start
    starts = ap first chain_is ∙ ap (λ (l : List ℕ). first (chain_of (data_capacity g) (take wanted l) bytes)) T'.starts

    -- its entry
    entry_is : e ≡ new_entry label chain
    entry_is = let l = laws.length_chain g image bytes P.stands a free P.clear room in
        λ i. record { name = sym P.at.name_is i; extension = sym P.at.extension_is i; start = sym starts i; pages = count_told (sym P.at.extension_is i) ((n_is ∙ sym l) i) }

    -- ---- a page that joins
    module _ (one : f.extra ≡ 1) where
      joins_free_lem : count p.joins kept ≡ 0
      joins_free_lem = omega (arith, P.clear p.joins, ap (count p.joins) (T'.joins_is one), hit_same p.joins, range_le p.joins g.pages)

      -- the entry is new
      absent : find (file_key a.to) a.place.items ≡ nothing
      absent = elim (eq-zero-or-pos (count (file_key a.to) (keys a.place.items))) [
        | inl z ↦ find_none (file_key a.to) a.place.items z
        | inr z ↦ absurd (omega (arith, P.at.extra_is, extra_old g label a.place.items z))
      ]

      not_zero : p.joins ≡ 0 → ⊥
      not_zero z =
          let i = a.tree in
          let w = a.well.holds in
          omega (
            arith,
            joins_free_lem,
            ap (λ (y : ℕ). count y kept) z,
            laws.kept_old g image bytes P.stands a 0,
            ap (λ (x : Found). count 0 (chain_pages x)) absent,
            zero_taken i.tree w.is_directory w.at_zero,
            count_append 0 (all_pages i.tree) (map_pages i.map),
          )

      joined : Joins the_edit change (e ∷ [])
      joined =
          let L = P.at.in_new_page one in
          let q : get_or free 0 0 ≡ p.joins = ap (λ (l : List ℕ). get_or l 0 0) (T'.joins_is one) in
          record {
            before = L.before;
            entries = L.entries;
            shape = L.shape;
            then = L.then (get_or free 0 0) chain ∙ rw (q, ← entry_is) refl;
            other = λ z. omega (
              arith,
              joins_free_lem,
              ap (λ (y : ℕ). count y kept) z,
              laws.kept_is g image bytes P.stands a f.slot.page,
              ap (count f.slot.page) (own_tokens a.place.items ∙ ap token_pages L.shape),
              page_there f.slot.page L.before (entry_tokens L.entries ++ []),
            );
          }

    exchanges : f.extra ≡ 0 → Exchanges the_edit change (e ∷ [])
    exchanges z =
        let L = P.at.in_page_lem z in
        record {
          before = L.before;
          entries = L.entries;
          exchanged = L.exchanged;
          later = L.later;
          shape = L.shape;
          then = L.then (get_or free 0 0) chain ∙ rw (← entry_is) refl;
          first_is = L.first_is;
          last_is = L.last_is;
          skip_is = L.skip_is;
          next_is = pointer_is (laws.directory g image bytes P.stands P.asked) f.slot.page f.slot.next.page L.before L.entries L.exchanged L.later L.shape L.next_is;
        }

    entering : Entering the_edit change (e ∷ [])
    entering = elim (eq-zero-or-pos f.extra) [
      | inl z ↦ record { exchanges = λ _. exchanges z; joins = λ y. absurd (y (T'.joins_none z)) }
      | inr z ↦ let one : f.extra ≡ 1 = omega (arith, one_extra) in record { exchanges = λ y. absurd (not_zero one y); joins = λ _. joined one }
    ]

    -- the plan, over any marks: an edit of the same directory in an image in which it stands
    pub record SameEdit {image' marks' : List ℕ} {D' : DirectoryOf g image' marks'} (E' : OneEdit D') : Type 0 where
      pub items_are : D'.place.items ≡ P.asked.place.items
      pub after_is : E'.after ≡ the_edit.after
      pub chain_same : E'.chain ≡ the_edit.chain

    pub plan_of : {image' marks' : List ℕ} {D' : DirectoryOf g image' marks'} (E' : OneEdit D') → SameEdit E' → Plan g image' table bytes change e
    plan_of {image'} {marks'} {D'} E' s = record {
      marks = marks';
      directory = D';
      edit = E';
      used = in_use P.asked.to P.asked.tree;
      represents = P.represents;
      enough = omega (arith, ap length T'.rest, length-drop f.extra free, T'.enough);
      chain_is = s.chain_same ∙ chain_is;
      entering = record {
        exchanges = λ z. let x = entering.exchanges z in record {
          before = x.before;
          entries = x.entries;
          exchanged = x.exchanged;
          later = x.later;
          shape = ap tokens s.items_are ∙ x.shape;
          then = ap tokens s.after_is ∙ x.then;
          first_is = x.first_is;
          last_is = x.last_is;
          skip_is = x.skip_is;
          next_is = x.next_is;
        };
        joins = λ z. let x = entering.joins z in record {
          before = x.before;
          entries = x.entries;
          shape = ap tokens s.items_are ∙ x.shape;
          then = ap tokens s.after_is ∙ x.then;
          other = x.other;
        };
      };
    }

    -- what the plan's first two steps leave is what the edit's leave
    pub carried_is : {image' marks' : List ℕ} {D' : DirectoryOf g image' marks'} (E' : OneEdit D') (s : SameEdit E') (budget : Budget) (now : Progress)
        → now ≡ step₂ (plan_of E' s).edit budget → now ≡ step₂ E' budget
    unfolding plan_of
    carried_is E' s budget now q = q

    pub plan_image : {image' marks' : List ℕ} {D' : DirectoryOf g image' marks'} (E' : OneEdit D') (s : SameEdit E') → es.image₂ (plan_of E' s).edit ≡ es.image₂ E'
    unfolding plan_of
    plan_image E' s = refl

    pub plan_left : {image' marks' : List ℕ} {D' : DirectoryOf g image' marks'} (E' : OneEdit D') (s : SameEdit E') → es.left (plan_of E' s).edit ≡ es.left E'
    unfolding plan_of
    plan_left E' s = refl

    pub plan_steps : {image' marks' : List ℕ} {D' : DirectoryOf g image' marks'} (E' : OneEdit D') (s : SameEdit E') (budget : Budget) → step₃ (plan_of E' s).edit budget ≡ step₃ E' budget
    unfolding plan_of
    plan_steps E' s budget = refl

    -- the pages that the edit takes are the free ones below the bound
    pub taken_below : (x : ℕ) → count x (free_pages (in_use P.asked.to P.asked.tree) p.below) ≡ count x (take (laws.extra g image bytes P.stands P.asked) free) + count x (pages the_edit.chain)
    taken_below x = omega (
      arith,
      ap (count x) (T'.lowest ∙ take-add f.extra n free),
      count_append x (take f.extra free) (take n (drop f.extra free)),
      ap (λ (k : ℕ). count x (take k free)) P.at.extra_is,
      ap (count x) (ap pages chain_is ∙ pages_chain_of (data_capacity g) (take wanted (free_from (in_use P.asked.to P.asked.tree) p.start g.pages)) bytes),
      ap (λ (l : List ℕ). count x (take n l)) T'.rest,
      ap (λ (k : ℕ). count x (take k (free_from (in_use P.asked.to P.asked.tree) p.start g.pages))) n_is,
    )

    -- the pages in use then: those that stay, and those that it takes
    pub left_then : (x : ℕ) → count x (es.left the_edit) ≡ count x kept + count x (free_pages (in_use P.asked.to P.asked.tree) p.below)
    left_then x = omega (arith, laws.pages_then g image bytes P.stands a free P.clear room x, taken_below x)
