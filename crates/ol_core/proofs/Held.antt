-- What is held of a space: of the empty journal, with a blank page more, and after a record that changes none of its pages.
use Rattle.std.specs.Prelude.{List, Option, [], false, is_none, length, nat_lt, replicate, slice_index_or, suc, zero, ℕ, ◌++◌, ◌∷◌, ◌≡◌, refl}
use Rattle.std.proofs.Common.{ap, arith, length-append, subst, sym, ◌∙◌}
use Rattle.std.proofs.lemmas.Bool.Decides.{nat_tests}
use Rattle.ol_values.specs.declared.record.Record.{Record}
use Rattle.ol_values.specs.declared.row.Row.{Row}
use Rattle.ol_values.specs.Config.{Config, data_pages}
use Rattle.ol_values.specs.Image.{IsPage, page_bytes}
use Rattle.ol_values.specs.Pages.{blank}
use Rattle.ol_rules.specs.Journal.{page_at, page_from, row_after, row_at, touches}
use Rattle.ol_laws.proofs.JournalLaws.{page_at-untouched, row_at-push, stamp_at-push}
use Rattle.ol_page.proofs.Slots.{blank_bytes, blank_page, length-page_bytes}
use Rattle.ol_core.specs.Filled.{AreFilled, Filled, IsFilled, blank_image, filled_at, image_at, no_rows, slot_at}

-- ---- the empty journal

blank_at : (s p : ℕ) → page_at [] s p ≡ blank
unfolding page_from
blank_at s p = refl

pub is_blank : blank_image ≡ page_bytes blank
unfolding blank_image
is_blank = sym blank_bytes

filled_new : (pages s : ℕ) → IsFilled pages [] s no_rows
filled_new pages s = record {
  room = omega arith;
  held = omega arith;
  images = λ p. is_blank ∙ ap page_bytes (sym (blank_at s p));
  sound = λ p. subst IsPage (sym (blank_at s p)) blank_page;
  slots = λ i. grind (arith, nat_tests);
  stamps = λ p. grind (arith, nat_tests);
}

none_filled : (n s : ℕ) → filled_at (replicate n no_rows) s ≡ no_rows
none_filled zero s = refl
none_filled (suc n) zero = refl
none_filled (suc n) (suc s) = none_filled n s

pub filled_none : (c : Config) (n : ℕ) → AreFilled c [] (replicate n no_rows)
filled_none c n s = subst (IsFilled (data_pages c s) [] s) (sym (none_filled n s)) (filled_new (data_pages c s) s)

-- ---- a page more

abbrev pub held : ℕ → List (List ℕ) → Filled
held rows images = record { rows = rows; images = images }

same_image : (images : List (List ℕ)) (p : ℕ) → slice_index_or (images ++ blank_image ∷ []) p blank_image ≡ slice_index_or images p blank_image
same_image [] zero = refl
same_image [] (suc p) = refl
same_image (x ∷ images) zero = refl
same_image (x ∷ images) (suc p) = same_image images p

pub filled_grown : (pages : ℕ) (j : List Record) (s rows : ℕ) (images images' : List (List ℕ)) → images' ≡ images ++ replicate 2048 0 ∷ [] → IsFilled pages j s (held rows images) → IsFilled pages j s (held rows images')
unfolding blank_image
filled_grown pages j s rows images images' is k = record {
  room = k.room;
  held = omega (arith, k.held, length-append images (replicate 2048 0 ∷ []), ap length is);
  images = λ p. ap (λ (l : List (List ℕ)). slice_index_or l p blank_image) is ∙ same_image images p ∙ k.images p;
  sound = k.sound;
  slots = k.slots;
  stamps = k.stamps;
}

-- ---- a record that changes no page of the space

pub filled_still : (pages : ℕ) (j : List Record) (r : Record) (s : ℕ) (f : Filled) → ((p : ℕ) → touches s p r ≡ false) → ((i : ℕ) (held : Option Row) → row_after (slot_at s i) held r ≡ held) → IsFilled pages j s f → IsFilled pages (j ++ r ∷ []) s f
filled_still pages j r s f untouched kept k =
    let same = λ (p : ℕ). page_at-untouched j r s p (untouched p) in
    record {
      room = k.room;
      held = k.held;
      images = λ p. k.images p ∙ ap page_bytes (sym (same p));
      sound = λ p. subst IsPage (sym (same p)) (k.sound p);
      slots = λ i. ap is_none (row_at-push j r (slot_at s i) ∙ kept i (row_at j (slot_at s i))) ∙ k.slots i;
      stamps = λ p. ap (nat_lt 0) (stamp_at-push j r s p ∙ rw (untouched p) refl) ∙ k.stamps p;
    }

-- ---- images

pub length-image : (pages : ℕ) (j : List Record) (s : ℕ) (f : Filled) (p : ℕ) (image : List ℕ) → image ≡ image_at f p → IsFilled pages j s f → length image ≡ 2048
length-image pages j s f p image is k = ap length (is ∙ k.images p) ∙ length-page_bytes (page_at j s p) (k.sound p)

pub blank_is : blank_image ≡ replicate 2048 0
unfolding blank_image
blank_is = refl
