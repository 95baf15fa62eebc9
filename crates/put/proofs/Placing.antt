-- Where a file's entry goes: to the first page with space or a page that joins, or to the place of the file it replaces.
use Rattle.refusals.specs.declared.Refusal.{Refusal}
use Rattle.std.specs.Prelude.{Result, Ok, Err}
use Rattle.refusals.specs.declared.Fault.TheVariants as fault
use mathlib.Core.Path.{◌≡◌, refl, ap, ap₂, sym, ◌∙◌, subst}
use mathlib.Core.Bool.{Bool, true, false}
use mathlib.Core.List.{List, [], ◌∷◌, ◌++◌}
use Prim.Native.Nat.{ℕ, ◌+◌, ◌≤◌, ◌<◌}
use native.Mathlib.Omega.{arith}
use lib.ListN.{length}
use Rattle.geometry.specs.declared.Geometry.{Geometry}
use Rattle.geometry.specs.Choose.{choose}
use Rattle.geometry.specs.ChooseLaws.{choose_false}
use Rattle.packet.specs.Packet.{View, view_of}
use Rattle.rules.specs.declared.Entry.{Entry}
use Rattle.rules.specs.Result.{ok}
use Rattle.rules.specs.PageSets.{bit, count}
use Rattle.rules.proofs.PageSetLaws.{hit_same}
use Rattle.rules.specs.Chain.{Views, views_of, Link, link, first}
use Rattle.rules.specs.Tree.{Label, key_of, Items, new_page, entry, entry_tokens, tokens, file_entry, keys, Image}
use Rattle.rules.specs.Check.{check}
use Rattle.rules.specs.Paths.{path_of, file_key, file_label, nothing}
use Rattle.rules.specs.Put.{new_item, writable, put_target}
use Rattle.rules.proofs.EditLaws.{none_found, found_file, new_tokens}
use Rattle.rules.specs.EditLaws.{new_entry}
use Rattle.rules.proofs.TargetLaws.{reached, put_target_none, put_target_hidden, put_target_is, put_target_kept}
use Rattle.reading_theorems.specs.LabelLaws.{file_no_directory}
use Rattle.editing_theorems.specs.FormedPaths.{formed}
use Rattle.editing_theorems.specs.PutDirectory.{file_number_lem, extra_old, extra_new, after_old, after_new, SameName, same_name}
use Rattle.chain.specs.KnownChain.{ChainAt}
use Rattle.entries.specs.declared.Slot.{Slot}
use Rattle.lookup.specs.declared.Reached.{Reached}
use Rattle.lookup.specs.declared.Spot.{Spot}
use Rattle.lookup.specs.declared.PathLookup.{PathLookup}
use Rattle.lookup.specs.declared.PathLookup.TheVariants as lookup
use Rattle.lookup.specs.Searches.{HasTree}
use Rattle.lookup.specs.Targets.{PathAbsent, FileAt, Looks}
use Rattle.lookup.specs.TargetLaws.{looks_as, bit_clear, is_writable, not_writable}
use Rattle.lookup.specs.declared.space.Space.{Space}
use Rattle.lookup.specs.declared.space.Space.TheVariants as space
use Rattle.lookup.specs.PlaceLaws.{entry_shape, entry_replaced, entry_first}
use Rattle.lookup.specs.Spaces.{SpaceAt, NoSpace, IsSpace, Spaces}
use Rattle.edit.specs.declared.NewFile.{NewFile}
use Rattle.put.specs.Places.{NewEntryIs, ItemPlace, IsPlaced}

-- ---- a new file
module _ {g : Geometry} {image : List ℕ} {start name extension : ℕ} {r : Space} (h : Spaces g (views_of g image) start r) {s : Slot} where
  pub to_space : r ≡ space.At s → NewEntryIs g image start name extension (record { name = name; extension = extension; replaces = g.pages; slot = s; first = s.count; last = s.count; extra = 0 })
  to_space e = record {
    fresh = refl;
    at = λ q d n x t absent.
        let k : SpaceAt g (view_of g image) d s = subst (IsSpace g (view_of g image) d) e (h d t) in
        let none : count (key_of (file_label q)) (keys d) ≡ 0 = none_found (file_key q) d absent in
        record {
          name_is = n;
          extension_is = x;
          extra_is = extra_new g (file_label q) d none ∙ ap bit k.space;
          in_page_lem = λ _. record {
            before = k.before;
            entries = k.entries;
            exchanged = [];
            later = k.later;
            shape = k.page.shape;
            then = λ p chain. ap tokens (after_new g (file_label q) p chain d none) ∙ k.inserted (new_item (file_label q) chain) (new_entry (file_label q) chain) (new_tokens (file_label q) chain) p;
            first_is = k.page.count_is;
            last_is = omega (arith, k.page.count_is);
            skip_is = k.page.skip_is;
            next_is = k.page.next_is;
          };
          in_new_page = λ z. absurd (omega (arith, z));
        };
  }

  pub to_join : r ≡ space.Full s → NewEntryIs g image start name extension (record { name = name; extension = extension; replaces = g.pages; slot = s; first = s.count; last = s.count; extra = 1 })
  to_join e = record {
    fresh = refl;
    at = λ q d n x t absent.
        let k : NoSpace g (view_of g image) d s = subst (IsSpace g (view_of g image) d) e (h d t) in
        let none : count (key_of (file_label q)) (keys d) ≡ 0 = none_found (file_key q) d absent in
        record {
          name_is = n;
          extension_is = x;
          extra_is = extra_new g (file_label q) d none ∙ ap bit k.full;
          in_page_lem = λ z. absurd (omega (arith, z));
          in_new_page = λ _. record {
            before = k.before;
            entries = k.entries;
            shape = k.page.shape;
            then = λ p chain. ap tokens (after_new g (file_label q) p chain d none) ∙ k.inserted (new_item (file_label q) chain) (new_entry (file_label q) chain) (new_tokens (file_label q) chain) p;
          };
        };
  }

-- a chain begins at a page of the image
chain_inside : (g : Geometry) (v : View) (start : ℕ) (ls : List Link) → ChainAt g v start ls → start < g.pages
chain_inside g v start [] c = absurd (omega (arith, c.some))
chain_inside g v start (link p b ∷ ls) c = omega (arith, c.begins, c.within p (omega (arith, hit_same p)))

-- ---- a file that is there
module _ (g : Geometry) (image path : List ℕ) (i : Image) (r : Reached) (s : Slot) (m : ℕ) (e : Entry) (there : FileAt g (views_of g image) (path_of path) i r s m e)
    (seen : r.hidden ≡ false) (h : e.extension ≤ 127) where
  open there use {target, directory, label, links, found, entry_is, chain, at}

  abbrev items : Items
  items = target.place.items

  abbrev fresh : Label
  fresh = file_label target.to

  -- its name and extension byte are those of the path
  same : SameName fresh label
  same = same_name fresh label (sym (found_file (file_key target.to) label links items found).key_is) (bit_clear there h)
      (omega (arith, (formed path target.to (reached (path_of path) i.tree target there.reached).formed).extension))

  -- its extension is a file's
  low : target.to.extension ≤ 99
  low = (formed path target.to (reached (path_of path) i.tree target there.reached).formed).extension

  same_entry : (new : List Link) → file_entry label new ≡ new_entry fresh new
  same_entry new = ap₂ (λ (n x : ℕ). record { name = n; extension = x; start = first new; pages = length new }) same.name_is same.extension_is
      ∙ ap (λ (k : ℕ). record { name = fresh.name; extension = fresh.extension; start = first new; pages = k })
      (sym (ap (λ (b : Bool). choose b 0 (length new)) (file_no_directory target.to.extension (file_number_lem target.to.extension low)) ∙ choose_false _ _))

  named : 1 ≤ count (key_of fresh) (keys items)
  named = (found_file (file_key target.to) label links items found).named

  pub over : ItemPlace g image (put_target path) i (record { name = e.name; extension = e.extension; replaces = e.start; slot = s; first = s.at; last = s.at + 1; extra = 0 })
  over = record {
    goal = target;
    reached = put_target_is path i.tree target there.reached (directory.hidden_is ∙ seen) (ap writable found ∙ is_writable there h);
    at = record {
      name_is = sym same.name_is ∙ sym (ap (λ (x : Entry). x.name) entry_is);
      extension_is = sym same.extension_is ∙ sym (ap (λ (x : Entry). x.extension) entry_is);
      extra_is = extra_old g fresh items named;
      in_page_lem = λ _. record {
        before = at.before;
        entries = at.entries ++ at.stamps;
        exchanged = e ∷ [];
        later = at.later;
        shape = entry_shape at;
        then = λ q new. ap tokens (after_old g fresh q new items named) ∙ entry_replaced at label links new found
            ∙ ap (λ (x : Entry). at.before ++ (new_page s.page ∷ (entry_tokens (at.entries ++ at.stamps) ++ (entry x ∷ at.later)))) (same_entry new);
        first_is = entry_first at;
        last_is = ap (λ (n : ℕ). n + 1) (entry_first at);
        skip_is = at.skip_is;
        next_is = at.next_is;
      };
      in_new_page = λ z. absurd (omega (arith, z));
    };
    old = rw found (record { chain = λ _. chain; none = λ z. absurd (omega (arith, z, chain_inside g (view_of g image) e.start links chain)) });
    pages_are = rw found refl;
  }

-- ---- by path: each refusal in its place
module _ (g : Geometry) (image path : List ℕ) (r : Result PathLookup Refusal) (look : Looks g (views_of g image) path r) (i : Image) (accepted : check g (views_of g image) ≡ ok i) where
  abbrev vs : Views
  vs = views_of g image

  pub not_there : (z : Refusal) → r ≡ Err z → IsPlaced g image (put_target path) i (Err z)
  not_there z e = put_target_none path i.tree _ _ (looks_as g vs path i r look accepted (Err z) e)

  module _ {d : Reached} {name extension : ℕ} (e : r ≡ Ok (lookup.Absent d name extension)) where
    gap : PathAbsent g (views_of g image) (path_of path) i d name extension
    gap = looks_as g vs path i r look accepted (Ok (lookup.Absent d name extension)) e

    pub has_tree : HasTree g (views_of g image) d.start
    has_tree = record { tree = gap.target.place.items; at = gap.directory.tree }

    pub new_hidden : d.hidden ≡ true → IsPlaced g image (put_target path) i (Err (record { 0 = fault.Hidden; 1 = 0 }))
    new_hidden h = put_target_hidden path i.tree gap.target gap.reached (gap.directory.hidden_is ∙ h)

    may_write : writable nothing ≡ ok tt
    unfolding writable
    may_write = refl

    pub new_place : d.hidden ≡ false → (f : NewFile) → NewEntryIs g image d.start name extension f → IsPlaced g image (put_target path) i (Ok f)
    new_place h f n = record {
      goal = gap.target;
      reached = put_target_is path i.tree gap.target gap.reached (gap.directory.hidden_is ∙ h) (ap writable gap.absent ∙ may_write);
      at = n.at gap.target.to gap.target.place.items gap.name_is gap.extension_is gap.directory.tree gap.absent;
      old = rw gap.absent (record { chain = λ z. absurd (omega (arith, z, n.fresh)); none = λ _. refl });
      pages_are = rw gap.absent refl;
    }

  module _ (d : Reached) (x : Spot) (q : r ≡ Ok (lookup.At d x)) where
    abbrev s : Slot
    s = x.slot

    abbrev stamps : ℕ
    stamps = x.stamps

    abbrev e : Entry
    e = x.entry

    there : FileAt g (views_of g image) (path_of path) i d s stamps e
    there = looks_as g vs path i r look accepted (Ok (lookup.At d x)) q

    pub old_hidden : d.hidden ≡ true → IsPlaced g image (put_target path) i (Err (record { 0 = fault.Hidden; 1 = 0 }))
    old_hidden h = put_target_hidden path i.tree there.target there.reached (there.directory.hidden_is ∙ h)

    pub under : s.at < s.count
    under = there.at.under

    module _ (seen : d.hidden ≡ false) where
      pub read_only : 127 < e.extension → IsPlaced g image (put_target path) i (Err (record { 0 = fault.ReadOnly; 1 = 0 }))
      read_only h = put_target_kept path i.tree there.target there.reached (there.directory.hidden_is ∙ seen) 16 0 (ap writable there.found ∙ not_writable there h)

      pub old_place : e.extension ≤ 127
          → IsPlaced g image (put_target path) i (Ok (record { name = e.name; extension = e.extension; replaces = e.start; slot = s; first = s.at; last = s.at + 1; extra = 0 }))
      old_place h = over g image path i d s stamps e there seen h
