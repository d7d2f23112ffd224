pub mod BadLemmas
pub mod MarksLaws
pub mod MeetingLemmas
