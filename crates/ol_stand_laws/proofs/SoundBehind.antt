-- Records that are sound behind a start are sound behind the journal that it is the start of, and the other way round.
use Rattle.std.specs.Prelude.{Bool, List, [], length, nat_lt, ℕ, ◌++◌, ◌+◌, ◌≡◌}
use Rattle.std.proofs.Common.{ap, append-nil, arith, subst, sym, ◌∙◌}
use Rattle.std.proofs.lemmas.Bool.{and_parts, ltb-true}
use Rattle.ol_values.specs.declared.record.Record.{Record}
use Rattle.ol_values.specs.Config.{Config, data_pages, has_page}
use Rattle.ol_rules.specs.Sound.{AllChangesIn, Before, Sound, afterwards, start}
use Rattle.ol_rules.specs.Start.{IsStartOf, SoundBehind, Start, before_behind}
use Rattle.ol_laws.proofs.AlikeLaws.{AlikeThere, sound_there}
use Rattle.ol_laws.proofs.SoundLaws.{last_after, rows_of, sound_join, sound_split, txns_of}
use Rattle.ol_stand_laws.proofs.StartLaws.{last_is, rows_are, txns_are}

turned : (c : Config) (up : ℕ → Bool) (a b : Before) → AlikeThere c up a b → AlikeThere c up b a
turned c up a b h = record { rows = λ place there is. sym (h.rows place there is); txns = sym h.txns; last = sym h.last }

-- what precedes a record behind the start is alike to what precedes it behind the journal
start_alike : (c : Config) (up : ℕ → Bool) (journal : List Record) (s : Start) → IsStartOf c up journal s → Sound c journal → AlikeThere c up (before_behind s []) (afterwards start journal)
start_alike c up journal s is sound =
    let whole : journal ++ [] ≡ journal = append-nil journal in
    let behind : s.last + length {A = Record} [] ≡ length journal = last_is c up journal [] s is ∙ ap (λ (l : List Record). length l) whole in
    let whole_last : (afterwards start journal).last ≡ length journal = (let sum : (afterwards start journal).last ≡ 0 + length journal = last_after start journal in omega (arith, sum)) in
    record {
      rows = λ place there on.
          let parts = and_parts (has_page c place.space place.page) (nat_lt place.slot 31) there in
          let page = (and_parts (nat_lt place.space (length c.spaces)) (nat_lt place.page (data_pages c place.space)) parts.0).1 in
          rows_are c up journal [] s place is on (ltb-true place.page (data_pages c place.space) page) (ltb-true place.slot 31 parts.1)
          ∙ sym (rows_of start (journal ++ []) place)
          ∙ ap (λ (l : List Record). (afterwards start l).row place) whole;
      txns = txns_are c up journal [] s is (subst (λ (l : List Record). Sound c l) (sym whole) sound)
          ∙ sym (txns_of start (journal ++ []))
          ∙ ap (λ (l : List Record). (afterwards start l).txns) whole;
      last = behind ∙ sym whole_last;
    }

pub sound_behind_journal : (c : Config) (up : ℕ → Bool) (journal records : List Record) (s : Start) → IsStartOf c up journal s → Sound c journal → AllChangesIn up records → SoundBehind c s records → Sound c (journal ++ records)
sound_behind_journal c up journal records s is sound changes behind =
    sound_join c start journal records sound (sound_there c up (before_behind s []) (afterwards start journal) records (start_alike c up journal s is sound) changes behind)

pub sound_behind_start : (c : Config) (up : ℕ → Bool) (journal records : List Record) (s : Start) → IsStartOf c up journal s → AllChangesIn up records → Sound c (journal ++ records) → SoundBehind c s records
sound_behind_start c up journal records s is changes sound =
    let parts = sound_split c start journal records sound in
    sound_there c up (afterwards start journal) (before_behind s []) records (turned c up (before_behind s []) (afterwards start journal) (start_alike c up journal s is parts.0)) changes parts.1
