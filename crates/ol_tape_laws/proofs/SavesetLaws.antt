-- The pages of an archive with their images at its cut are the saveset of the journal.
use Rattle.std.specs.List.{range_with_len}
use Rattle.std.specs.Prelude.{All, Bool, List, [], cond, filter, flat_map, length, map, nat_lt, suc, take, true, false, zero, ℕ, ◌++◌, ◌+◌, ◌-◌, ◌<◌, ◌∷◌, ◌≡◌, ◌≤◌}
use Rattle.std.proofs.Common.{ap, arith, refl, subst, sym, ◌∙◌}
use Rattle.std.proofs.lemmas.List.Concat.{flat_map-cons}
use Rattle.std.proofs.lemmas.List.Elements.{All-head, All-tail}
use Rattle.std.proofs.Math.Seq.{take-append-add}
use Rattle.ol_values.specs.declared.record.Record.{Record}
use Rattle.ol_values.specs.Blocks.{Saved, SavedPage}
use Rattle.ol_values.specs.Config.{Config, data_pages}
use Rattle.ol_values.specs.Pages.{Page}
use Rattle.ol_rules.specs.Journal.{page_at, stamp_at}
use Rattle.ol_rules.specs.Saveset.{changed_pages, places, saveset}
use Rattle.ol_rules.specs.Start.{IsStartOf, Start, stamp_behind, upto}
use Rattle.ol_model.specs.Machine.{Archive, Machine, config_of}
use Rattle.ol_model.specs.Tape.{saved_at}
use Rattle.ol_model.specs.Waiting.{changed_upto, pages_of}
use Rattle.ol_stand_laws.proofs.StartLaws.{pages_are, stamps_are}

-- the journal up to the cut
past_is : (journal records : List Record) (s : Start) (cut : ℕ) → s.last ≡ length journal → s.last ≤ cut → journal ++ upto s records cut ≡ take cut (journal ++ records)
past_is journal records s cut last from =
    let count : length journal + (cut - s.last) ≡ cut = omega (arith, last, from) in
    sym (take-append-add journal records (cut - s.last)) ∙ ap (λ (n : ℕ). take n (journal ++ records)) count

filter_cong : (f g : ℕ → Bool) (from n : ℕ) → ((p : ℕ) → p < from + n → f p ≡ g p) → filter f (range_with_len from n) ≡ filter g (range_with_len from n)
filter_cong f g from zero same = refl
filter_cong f g from (suc n) same =
    ap (λ (b : Bool). cond b (from ∷ filter f (range_with_len (from + 1) n)) (filter f (range_with_len (from + 1) n))) (same from (omega arith))
    ∙ ap (λ (l : List ℕ). cond (g from) (from ∷ l) l) (filter_cong f g (from + 1) n (λ p lt. same p (omega (arith, lt))))

-- ---- the places

changed_is : (c : Config) (up : ℕ → Bool) (journal : List Record) (m : Machine) (a : Archive) (v : Saved) → IsStartOf c up journal m.work.start → config_of m ≡ c → up v.space ≡ true
    → changed_upto m a.cut v ≡ changed_pages c (journal ++ upto m.work.start m.work.records a.cut) v
changed_is c up journal m a v is config on =
    let records : List Record = upto m.work.start m.work.records a.cut in
    let test : ℕ → Bool = λ p. nat_lt v.base (stamp_behind m.work.start records v.space p) in
    let past : ℕ → Bool = λ p. nat_lt v.base (stamp_at (journal ++ records) v.space p) in
    let same : (p : ℕ) → p < 0 + data_pages c v.space → test p ≡ past p =
    λ p lt. ap (λ (n : ℕ). nat_lt v.base n) (stamps_are c up journal records m.work.start v.space p is on (omega (arith, lt))) in
    ap (λ (x : Config). map (λ p. let r : ℕ × ℕ = (v.space, p) in r) (filter test (range_with_len 0 (data_pages x v.space)))) config
    ∙ ap (λ (l : List ℕ). map (λ p. let r : ℕ × ℕ = (v.space, p) in r) l) (filter_cong test past 0 (data_pages c v.space) same)

flat_is : (c : Config) (up : ℕ → Bool) (journal : List Record) (m : Machine) (a : Archive) (spaces : List Saved) → IsStartOf c up journal m.work.start → config_of m ≡ c → All (λ (v : Saved). up v.space ≡ true) spaces
    → flat_map (changed_upto m a.cut) spaces ≡ flat_map (changed_pages c (journal ++ upto m.work.start m.work.records a.cut)) spaces
flat_is c up journal m a [] is config on = refl
flat_is c up journal m a (v ∷ spaces) is config on =
    let past : List Record = journal ++ upto m.work.start m.work.records a.cut in
    flat_map-cons (changed_upto m a.cut) v spaces
    ∙ ap (λ (l : List (ℕ × ℕ)). l ++ flat_map (changed_upto m a.cut) spaces) (changed_is c up journal m a v is config (All-head (λ (x : Saved). up x.space ≡ true) v spaces on))
    ∙ ap (λ (l : List (ℕ × ℕ)). changed_pages c past v ++ l) (flat_is c up journal m a spaces is config (All-tail (λ (x : Saved). up x.space ≡ true) v spaces on))
    ∙ sym (flat_map-cons (changed_pages c past) v spaces)

places_are : (c : Config) (up : ℕ → Bool) (journal : List Record) (m : Machine) (a : Archive) → IsStartOf c up journal m.work.start → config_of m ≡ c → All (λ (v : Saved). up v.space ≡ true) a.spaces
    → pages_of m a ≡ places c (journal ++ upto m.work.start m.work.records a.cut) a.spaces
unfolding pages_of places
places_are c up journal m a is config on = flat_is c up journal m a a.spaces is config on

-- ---- the images

-- each of these pages is there, in a space that is up
abbrev AreThere : Config → (ℕ → Bool) → List (ℕ × ℕ) → Type 0
AreThere c up [] = Unit {0}
AreThere c up (p ∷ rest) = ((up p.0 ≡ true) × (p.1 < data_pages c p.0)) × AreThere c up rest

there_append : (c : Config) (up : ℕ → Bool) (x y : List (ℕ × ℕ)) → AreThere c up x → AreThere c up y → AreThere c up (x ++ y)
there_append c up [] y front behind = behind
there_append c up (p ∷ x) y front behind = (front.0, there_append c up x y front.1 behind)

there_in_space : (c : Config) (up : ℕ → Bool) (space : ℕ) (test : ℕ → Bool) (from n : ℕ) → up space ≡ true → from + n ≡ data_pages c space
    → AreThere c up (map (λ p. let r : ℕ × ℕ = (space, p) in r) (filter test (range_with_len from n)))
there_in_space c up space test from zero on end = tt
there_in_space c up space test from (suc n) on end =
    let behind = there_in_space c up space test (from + 1) n on (omega (arith, end)) in
    elim (test from) as (λ b. AreThere c up (map (λ p. let r : ℕ × ℕ = (space, p) in r) (cond b (from ∷ filter test (range_with_len (from + 1) n)) (filter test (range_with_len (from + 1) n))))) [
      | true ↦ ((on, omega (arith, end)), behind)
      | false ↦ behind
    ]

there_in_spaces : (c : Config) (up : ℕ → Bool) (past : List Record) (spaces : List Saved) → All (λ (v : Saved). up v.space ≡ true) spaces → AreThere c up (flat_map (changed_pages c past) spaces)
there_in_spaces c up past [] on = tt
there_in_spaces c up past (v ∷ spaces) on =
    subst (λ (l : List (ℕ × ℕ)). AreThere c up l) (sym (flat_map-cons (changed_pages c past) v spaces))
    (there_append c up (changed_pages c past v) (flat_map (changed_pages c past) spaces)
    (there_in_space c up v.space (λ p. nat_lt v.base (stamp_at past v.space p)) 0 (data_pages c v.space) (All-head (λ (x : Saved). up x.space ≡ true) v spaces on) (omega arith))
    (there_in_spaces c up past spaces (All-tail (λ (x : Saved). up x.space ≡ true) v spaces on)))

places_there : (c : Config) (up : ℕ → Bool) (past : List Record) (spaces : List Saved) → All (λ (v : Saved). up v.space ≡ true) spaces → AreThere c up (places c past spaces)
unfolding places
places_there c up past spaces on = there_in_spaces c up past spaces on

-- a page with its image in a journal
abbrev saved_in : List Record → ℕ × ℕ → SavedPage
saved_in past p = record { space = p.0; page = p.1; image = page_at past p.0 p.1 }

images_are : (c : Config) (up : ℕ → Bool) (journal : List Record) (m : Machine) (a : Archive) (pages : List (ℕ × ℕ)) → IsStartOf c up journal m.work.start → AreThere c up pages
    → map (λ (p : ℕ × ℕ). saved_at m a p.0 p.1) pages ≡ map (saved_in (journal ++ upto m.work.start m.work.records a.cut)) pages
images_are c up journal m a [] is there = refl
images_are c up journal m a (p ∷ pages) is there =
    let records : List Record = upto m.work.start m.work.records a.cut in
    let image : saved_at m a p.0 p.1 ≡ saved_in (journal ++ records) p =
    ap (λ (x : Page). let r : SavedPage = record { space = p.0; page = p.1; image = x } in r) (pages_are c up journal records m.work.start p.0 p.1 is there.0.0 there.0.1) in
    ap (λ (x : SavedPage). x ∷ map (λ (q : ℕ × ℕ). saved_at m a q.0 q.1) pages) image
    ∙ ap (λ (l : List SavedPage). saved_in (journal ++ records) p ∷ l) (images_are c up journal m a pages is there.1)

-- ---- the saveset

pub saveset_is : (c : Config) (up : ℕ → Bool) (journal : List Record) (m : Machine) (a : Archive) → IsStartOf c up journal m.work.start → config_of m ≡ c → All (λ (v : Saved). up v.space ≡ true) a.spaces
    → m.work.start.last ≤ a.cut → map (λ (p : ℕ × ℕ). saved_at m a p.0 p.1) (pages_of m a) ≡ saveset c (journal ++ m.work.records) a.spaces a.cut
saveset_is c up journal m a is config on from =
    let past : List Record = journal ++ upto m.work.start m.work.records a.cut in
    let same : pages_of m a ≡ places c past a.spaces = places_are c up journal m a is config on in
    ap (λ (l : List (ℕ × ℕ)). map (λ (p : ℕ × ℕ). saved_at m a p.0 p.1) l) same
    ∙ images_are c up journal m a (places c past a.spaces) is (places_there c up past a.spaces on)
    ∙ ap (λ (l : List Record). map (saved_in l) (places c l a.spaces)) (past_is journal m.work.records m.work.start a.cut is.last from)
