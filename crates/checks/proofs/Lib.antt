mod FirstPlace
