use Rattle.ol_stand_laws.proofs.SoundPages.{data_page, value_at}
use Rattle.ol_stand_laws.proofs.pages_of_sound_journals_are_data_pages.Goals as goal

pub returns-clause-value : goal.returns-clause-value
returns-clause-value k = λ c journal place sound. value_at c journal place sound

pub returns-clause-page : goal.returns-clause-page
returns-clause-page k = λ c journal space page sound. data_page c journal space page sound
