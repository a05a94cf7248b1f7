mod KnownLaws
