-- The pages of a directory: no more slots taken than they hold, each can be written, and what the packets that differ leave to write.
use Rattle.std.specs.Prelude.{◌≡◌, refl, List, [], ◌∷◌, ◌++◌, ℕ, ◌+◌, ◌*◌, ◌≤◌, ◌<◌, length}
use Rattle.std.proofs.Common.{ap, ap₂, sym, ◌∙◌, arith, length-append, eqb-true}
use mathlib.Core.Bool.{Bool, true, false}
use Rattle.geometry.specs.declared.Geometry.{Geometry}
use Rattle.geometry.specs.Choose.{choose}
use Rattle.geometry.specs.ChooseLaws.{choose_true, choose_false}
use Rattle.geometry.specs.Geometry.{Valid, data_capacity, entry_size, later_entries}
use Rattle.geometry.specs.Number.{number_bytes, Bytes}
use Rattle.geometry.specs.NumberLaws.{bytes_append, number_bytes_lem}
use Rattle.packet.specs.Packet.{good, View, Write, write, same_list}
use Rattle.rules.specs.declared.Entry.{Entry}
use Rattle.rules.specs.PageSets.{count, Once, Within}
use Rattle.rules.proofs.PageSetLaws.{hit_same, same, other, hits, range_of}
use Rattle.rules.specs.Chain.{first, linked}
use Rattle.rules.specs.Names.{entry_bytes}
use Rattle.rules.specs.Tree.{Label, Items, end, page, file, dir, file_entry, directory_entry, Token, entry, stamp_tokens, tokens, token_bytes, token_links, directory_links, own_pages}
use Rattle.rules.specs.WellFormed.{HasPackets, Stamps, Named, Entries}
use Rattle.rules.proofs.StampLaws.{group_links}
use Rattle.rules.specs.Writes.{same_write, changes, backwards}
use Rattle.geometry.specs.BoolLaws.{both}
use Rattle.reading_theorems.specs.PacketLaws.{ByteView, packets_left, packets_right}
use Rattle.reading_theorems.specs.DirectoryComplete.{pages_fit}
use Rattle.editing_theorems.specs.Capacity.{capacity_is, later_holds, holds_later, slots_here, PagesHold, length_here}
use Rattle.editing_theorems.specs.AfterWrites.{write_pages, WritesFit}
use Rattle.editing_theorems.specs.HeldPackets.{count_joined, fits_join}

-- ---- entries as bytes
bytes_entry : (n : ℕ) (e : Entry) → e.extension < 256 → Bytes (entry_bytes n e)
bytes_entry n e h =
    let s = number_bytes n e.start in
    let c = number_bytes n e.pages in
    bytes_append (number_bytes 4 e.name) (e.extension ∷ (s ++ c)) (number_bytes_lem 4 e.name)
    (h, bytes_append s c (number_bytes_lem n e.start) (number_bytes_lem n e.pages))

bytes_stamps : (n : ℕ) (ss : List Entry) (ts : List Token) → Stamps n ss → Bytes (token_bytes n ts) → Bytes (token_bytes n (stamp_tokens ss ts))
bytes_stamps n [] ts h b = b
bytes_stamps n (s ∷ ss) ts h b = bytes_append (entry_bytes n s) (token_bytes n (stamp_tokens ss ts)) (bytes_entry n s h.1.byte) (bytes_stamps n ss ts h.2 b)

-- an entry with its stamps, and what stands after it
pub bytes_next : (n : ℕ) (l : Label) (e : Entry) (ts : List Token) → Named n l → e.extension < 256 → Bytes (token_bytes n ts)
    → Bytes (token_bytes n (stamp_tokens l.stamps (entry e ∷ ts)))
bytes_next n l e ts h k b = bytes_stamps n l.stamps (entry e ∷ ts) h.stamps (bytes_append (entry_bytes n e) (token_bytes n ts) (bytes_entry n e k) b)

bytes_here : (n levels : ℕ) (t : Items) → Entries n levels t → Bytes (token_bytes n (tokens t))
bytes_here n levels end w = tt
bytes_here n levels (page p t) w = tt
bytes_here n levels (file l ls t) w = bytes_next n l (file_entry l ls) (tokens t) w.0 w.0.byte (bytes_here n levels t w.3)
bytes_here n levels (dir l d t) w = bytes_next n l (directory_entry l d) (tokens t) w.0 w.0.byte (bytes_here n levels t w.5)

first_page : (g : Geometry) (control : List ℕ) (t : Items) → 0 < g.pages → Within g.pages (own_pages t) → first (directory_links g control t) < g.pages
first_page g control end h k = h
first_page g control (page p t) h k = range_of p g.pages (omega (arith, k p, hit_same p))
first_page g control (file l ls t) h k = rw (group_links g.width control l (file_entry l ls) (tokens t)) (first_page g control t h k)
first_page g control (dir l d t) h k = rw (group_links g.width control l (directory_entry l d) (tokens t)) (first_page g control t h k)

module _ (g : Geometry) (valid : Valid g) where
  -- a directory that stands has no more slots taken on a page than fit
  pub packets_hold : (v : View) → ByteView g v → (control : List ℕ) (next : ℕ) → ((k : ℕ) → length control + k * entry_size g ≤ data_capacity g → k ≤ next)
      → (t : Items) → HasPackets v (linked (directory_links g control t)) → PagesHold next (later_entries g) t
  packets_hold v bv control next h end s = tt
  packets_hold v bv control next h (page p t) s =
      let b = token_bytes g.width (tokens t) in (
        h (slots_here t) (omega (arith, bv.room p (control ++ b) (first (token_links g.width [] (tokens t))) s.0, length-append control b, length_here g t)),
        packets_hold v bv [] (later_entries g) (later_holds g valid) t s.1,
      )
  packets_hold v bv control next h (file l ls t) s = packets_hold v bv control next h t (rw (group_links g.width control l (file_entry l ls) (tokens t)) at s)
  packets_hold v bv control next h (dir l d t) s = packets_hold v bv control next h t (rw (group_links g.width control l (directory_entry l d) (tokens t)) at s)

  -- and its pages can be written
  pub directory_fits : (levels : ℕ) (control : List ℕ) (next : ℕ) → Bytes control → ((k : ℕ) → k ≤ next → length control + k * entry_size g ≤ data_capacity g)
      → (t : Items) → Entries g.width levels t → PagesHold next (later_entries g) t → Within g.pages (own_pages t) → WritesFit g (linked (directory_links g control t))
  directory_fits levels control next c h end w k f = tt
  directory_fits levels control next c h (page p t) w k f =
      let b = token_bytes g.width (tokens t) in
      let f' : Within g.pages (own_pages t) = λ x. omega (arith, f x) in (
        record {
          below = range_of p g.pages (omega (arith, f p, hit_same p));
          room = omega (arith, h (slots_here t) k.0, length-append control b, length_here g t, capacity_is g, valid.least, valid.two);
          pointer = omega (arith, first_page g [] t (omega (arith, valid.some)) f', pages_fit g valid);
          bytes = bytes_append control b c (bytes_here g.width levels t w);
        },
        directory_fits levels [] (later_entries g) tt (holds_later g valid) t w k.1 f',
      )
  directory_fits levels control next c h (file l ls t) w k f = rw (group_links g.width control l (file_entry l ls) (tokens t)) (directory_fits levels control next c h t w.3 k f)
  directory_fits levels control next c h (dir l d t) w k f = rw (group_links g.width control l (directory_entry l d) (tokens t)) (directory_fits levels control next c h t w.5 k f)

-- ---- the packets of a chain that differ from those before
pub same_list_lem : (a b : List ℕ) → same_list a b ≡ true → a ≡ b
same_list_lem [] [] e = refl
same_list_lem [] (y ∷ b) e = absurd (mathlib.Core.Bool.false≢true e)
same_list_lem (x ∷ a) [] e = absurd (mathlib.Core.Bool.false≢true e)
same_list_lem (x ∷ a) (y ∷ b) e = let h = both _ _ e in ap₂ (λ (z : ℕ) (l : List ℕ). z ∷ l) (eqb-true x y h.0) (same_list_lem a b h.1)

pub same_write_lem : (w u : Write) → same_write w u ≡ true → w ≡ u
same_write_lem (write p b n) (write q c m) e =
    let h = both _ _ e in
    let k = both _ _ h.1 in
    let e₁ = eqb-true p q h.0 in
    let e₂ = same_list_lem b c k.0 in
    let e₃ = eqb-true n m k.1 in
    cc

pub changes_less : (x : ℕ) (old new : List Write) → count x (write_pages (changes old new)) ≤ count x (write_pages new)
changes_less x [] new = omega arith
changes_less x (w ∷ ws) [] = omega arith
changes_less x (w ∷ ws) (write q c m ∷ us) = go (same_write w (write q c m)) (changes_less x ws us)
  where
    go : (t : Bool) → count x (write_pages (changes ws us)) ≤ count x (write_pages us)
        → count x (write_pages (choose t (changes ws us) (write q c m ∷ changes ws us))) ≤ count x (q ∷ write_pages us)
    go true h = simp choose_true (omega arith)
    go false h = simp choose_false (omega arith)

pub changes_fit : (g : Geometry) (old new : List Write) → WritesFit g new → WritesFit g (changes old new)
changes_fit g [] new f = f
changes_fit g (w ∷ ws) [] f = tt
changes_fit g (w ∷ ws) (write q c m ∷ us) f = go (same_write w (write q c m)) (changes_fit g ws us f.1)
  where
    go : (t : Bool) → WritesFit g (changes ws us) → WritesFit g (choose t (changes ws us) (write q c m ∷ changes ws us))
    go true h = simp choose_true h
    go false h = simp choose_false (f.0, h)

-- where the old chain stood and what differs stands, the new chain stands
pub changes_stand : (v w : View) (old new : List Write) → Once (write_pages new) → HasPackets v old → HasPackets w (changes old new)
    → ((x : ℕ) → 1 ≤ count x (write_pages new) → count x (write_pages (changes old new)) ≡ 0 → w x ≡ v x) → HasPackets w new
changes_stand v w [] new o a s h = s
changes_stand v w (u ∷ ws) [] o a s h = tt
changes_stand v w (write p b n ∷ ws) (write q c m ∷ us) o a s h =
    go (same_write (write p b n) (write q c m)) refl s h (changes_stand v w ws us (λ x. omega (arith, o x)) a.1)
  where
    go : (t : Bool) → same_write (write p b n) (write q c m) ≡ t → HasPackets w (choose t (changes ws us) (write q c m ∷ changes ws us))
        → ((x : ℕ) → 1 ≤ count x (q ∷ write_pages us) → count x (write_pages (choose t (changes ws us) (write q c m ∷ changes ws us))) ≡ 0 → w x ≡ v x)
        → (HasPackets w (changes ws us) → ((x : ℕ) → 1 ≤ count x (write_pages us) → count x (write_pages (changes ws us)) ≡ 0 → w x ≡ v x) → HasPackets w us)
        → HasPackets w (write q c m ∷ us)
    go true e s h r =
        let s' : HasPackets w (changes ws us) = simp choose_true at s in
        let h' : (x : ℕ) → 1 ≤ count x (q ∷ write_pages us) → count x (write_pages (changes ws us)) ≡ 0 → w x ≡ v x = simp choose_true at h in
        let i = same_write_lem (write p b n) (write q c m) e in
        let e₁ : p ≡ q = cc in
        let e₂ : good b n ≡ good c m = cc in
        (h' q (omega (arith, hit_same q)) (omega (arith, changes_less q ws us, o q, hit_same q)) ∙ ap v (sym e₁) ∙ a.0 ∙ e₂, r s' (λ x k z. h' x (omega arith) z))
    go false e s h r =
        let s' : HasPackets w (write q c m ∷ changes ws us) = simp choose_false at s in
        let h' : (x : ℕ) → 1 ≤ count x (q ∷ write_pages us) → count x (q ∷ write_pages (changes ws us)) ≡ 0 → w x ≡ v x = simp choose_false at h in
        (s'.0, r s'.1 (λ x k z. elim (hits x q) [ same f i ↦ absurd (omega (arith, o x)) | other f i ↦ h' x (omega arith) (omega arith) ]))

-- ---- the last of them first
pub count_backwards : (x : ℕ) (ws : List Write) → count x (write_pages (backwards ws)) ≡ count x (write_pages ws)
count_backwards x [] = refl
count_backwards x (write p b n ∷ ws) = omega (arith, count_joined x (backwards ws) (write p b n ∷ []), count_backwards x ws)

pub backwards_fit : (g : Geometry) (ws : List Write) → WritesFit g ws → WritesFit g (backwards ws)
backwards_fit g [] f = tt
backwards_fit g (write p b n ∷ ws) f = fits_join g (backwards ws) (write p b n ∷ []) (backwards_fit g ws f.1) (f.0, tt)

pub backwards_stand : (v : View) (ws : List Write) → HasPackets v (backwards ws) → HasPackets v ws
backwards_stand v [] s = tt
backwards_stand v (write p b n ∷ ws) s =
    ((packets_right v (backwards ws) (write p b n ∷ []) s).0, backwards_stand v ws (packets_left v (backwards ws) (write p b n ∷ []) s))
